use Rattle.std.proofs.Common.{ℕ, ◌+◌, ◌-◌, length, drop}
use Rattle.region_table.specs.Words.{IsCommon}
use Rattle.region_table.proofs.merging.least_common_word.Given as goal

-- no common word is passed
abbrev pub invariant-loop-i : goal.invariant-loop-i
invariant-loop-i l = (w : ℕ) → IsCommon l.a l.b w → IsCommon (drop l.i l.a) (drop l.j l.b) w

abbrev pub decreases-loop-i : goal.decreases-loop-i
decreases-loop-i l = (length l.a - l.i) + (length l.b - l.j)
