-- Counts of faults. A count is a number of 64 bits. It never falls, and it stays at its greatest value once it is there.
use Rattle.std.specs.Prelude.{ℕ, ◌+◌, ◌≤◌, min}

-- the count after one more fault
abbrev pub raised : ℕ → ℕ
raised count = min (count + 1) 18446744073709551615

-- the count rose: it is greater than before, or it is at its greatest value
abbrev pub Rose : ℕ → ℕ → Type 0
Rose before now = raised before ≤ now
