use Rattle.std.proofs.Common.{◌≡◌, ℕ, ◌&&◌, nat_lt}
use Rattle.rv_core.specs.Access.{is_held}
use Rattle.common_outcomes.specs.Phases.{is_nested}
use Rattle.outcomes_top.proofs.circles.next_of.Given as goal

abbrev pub invariant-loop-next : goal.invariant-loop-next
invariant-loop-next l = (b : ℕ) → is_held l.row b ≡ (nat_lt b l.next && is_nested l.all l.lock b)
