use Rattle.std.proofs.Common.{ℕ, ◌<◌}
use Rattle.effect_checker.specs.Faults.{AreTwoLocks}
use Rattle.effect_checker.proofs.searching.first_two_locks.Given as goal

abbrev pub invariant-loop-lock : goal.invariant-loop-lock
invariant-loop-lock l = (a b w : ℕ) → a < l.lock → AreTwoLocks l.tasks a b w → ⊥
