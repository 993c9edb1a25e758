use Rattle.std.proofs.Common.{ℕ, ◌<◌}
use Rattle.effect_checker.specs.Faults.{IsGuardedPlain}
use Rattle.effect_checker.proofs.searching.first_guarded_plain.Given as goal

abbrev pub invariant-loop-lock : goal.invariant-loop-lock
invariant-loop-lock l = (lock core w : ℕ) → lock < l.lock → IsGuardedPlain l.tasks lock core w → ⊥
