use Rattle.std.proofs.Common.{◌≡◌, drop}
use Rattle.common_outcomes.specs.Phases.{is_nested}
use Rattle.outcomes_top.proofs.circles.is_nested.Given as goal

abbrev pub invariant-loop-outline : goal.invariant-loop-outline
invariant-loop-outline l = is_nested (drop l.outline-index l.all) l.lock l.next ≡ is_nested l.all l.lock l.next
