use Rattle.std.proofs.Common.{◌≡◌, drop}
use Rattle.std.specs.List.{list_any}
use Rattle.common_outcomes.specs.Phases.{takes_elsewhere}
use Rattle.outcomes_top.proofs.summary.is_taken_elsewhere.Given as goal

abbrev pub invariant-loop-outline : goal.invariant-loop-outline
invariant-loop-outline l = list_any (takes_elsewhere l.decl l.lock) (drop l.outline-index l.all) ≡ list_any (takes_elsewhere l.decl l.lock) l.all
