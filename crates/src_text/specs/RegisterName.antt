-- The code's table of register names.
use Rattle.std.specs.Prelude.{ℕ, ◌-◌, ◌==◌, Bool, List, length, slice_index, filter}
use denote.Ref.{Bor}
use Rattle.src_text.specs.Register.{Register, register_row, register_rows}

abbrev pub register_row_of : Bor (List ℕ) × ℕ → Register
register_row_of r = register_row r.0.now r.1

abbrev pub ends_in : ℕ → Register → Bool
ends_in last r = slice_index r.name (length r.name - 1) == last

-- the rows of the names that end in a byte
unfoldable pub rows_ending_in : ℕ → List Register
rows_ending_in last = filter (ends_in last) register_rows
