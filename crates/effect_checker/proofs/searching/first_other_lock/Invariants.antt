use Rattle.std.proofs.Common.{ℕ, ◌<◌}
use Rattle.effect_checker.specs.Faults.{AreTwoLocks}
use Rattle.effect_checker.proofs.searching.first_other_lock.Given as goal

abbrev pub invariant-loop-other : goal.invariant-loop-other
invariant-loop-other l = (other w : ℕ) → other < l.other → AreTwoLocks l.tasks l.fn.lock other w → ⊥
