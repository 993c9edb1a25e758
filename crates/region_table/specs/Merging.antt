use Rattle.std.specs.Prelude.{ℕ, ◌<◌, ◌≤◌, List, length, slice_index_or}
use Rattle.region_table.specs.declared.interval.Interval.{Interval}

-- the word at which interval number `i` begins
abbrev pub interval_start : List Interval → ℕ → ℕ
interval_start is i = (slice_index_or is i (record { lo = 0; hi = 0 })).lo

-- interval `i` of `a` begins no later than interval `j` of `b`, if `b` has one
abbrev pub IsNext : List Interval → ℕ → List Interval → ℕ → Type 0
IsNext a i b j = (i < length a) × (j < length b → interval_start a i ≤ interval_start b j)
