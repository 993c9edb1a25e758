-- The integer registers.
use Rattle.std.specs.Prelude.{ℕ, ◌==◌, List, slice_index, slice_set, if◌then◌else◌}

-- the value of a register; x0 reads as 0
abbrev pub value_in : List ℕ → ℕ → ℕ
value_in regs r = if r == 0 then 0 else slice_index regs r

-- the registers after a write; a write to x0 is dropped
abbrev pub with_value : List ℕ → ℕ → ℕ → List ℕ
with_value regs r value = if r == 0 then regs else slice_set regs r value
