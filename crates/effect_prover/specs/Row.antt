-- What a table says of a task at a code word: the range of each register, and the locks that are held for certain.
use Rattle.std.specs.Prelude.{◌≡◌, ℕ, ◌^◌, ◌<◌, ◌==◌, length, replicate, slice_index_or, slice_set, Option, Some, None, if◌then◌else◌}
use Rattle.region_table.specs.declared.declared.TaskDecl.{TaskDecl}
use Rattle.flat_machine.specs.Laws.{HoldsLess}
use Rattle.effect_prover.specs.declared.range.Range.{Range}
use Rattle.effect_prover.specs.declared.row.Row.{Row}
use Rattle.effect_prover.specs.Range.{one, LiesWithin, IsRange}

-- registers with a role: the constant 0, the first argument, and the number of a call
abbrev pub x0 : ℕ
x0 = 0

abbrev pub a0 : ℕ
a0 = 10

abbrev pub a7 : ℕ
a7 = 17

-- the range of a register
abbrev pub range_of : Row → ℕ → Range
range_of row r = slice_index_or row.ranges r (one 0)

-- the row in which a register has another range; a write to x0 is dropped
abbrev pub with_range : Row → ℕ → Range → Row
with_range row rd range = if rd == 0 then row else record row { ranges = slice_set row.ranges rd range }

-- when a task starts, a0 has the task's argument, every other register is 0, and no lock is held
abbrev pub start_row : TaskDecl → Row
start_row d = record { ranges = slice_set (replicate 32 (one 0)) 10 (one d.arg); held = 0 }

-- a row has a range for each of the 32 registers, of which x0 is 0, and its locks are the bits of a number of 32 bits
pub record IsRow (row : Row) : Type 0 where
  pub count : length row.ranges ≡ 32
  pub each : (r : ℕ) → r < 32 → IsRange (range_of row r)
  pub zero_register : range_of row x0 ≡ one 0
  pub held : row.held < 2 ^ 32

-- the second row contains the first: its ranges contain the first's ranges, and its locks are among the first's
pub record IsBelow (row all : Row) : Type 0 where
  pub ranges : (r : ℕ) → r < 32 → LiesWithin (range_of row r) (range_of all r)
  pub locks : HoldsLess all.held row.held

-- the same for rows that may be missing, as at a word that isn't reached
abbrev pub IsUnder : Option Row → Option Row → Type 0
IsUnder None all = Unit {0}
IsUnder (Some row) None = ⊥
IsUnder (Some row) (Some all) = IsBelow row all
