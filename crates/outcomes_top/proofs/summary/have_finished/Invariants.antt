use Rattle.std.proofs.Common.{◌≡◌, drop}
use Rattle.std.specs.List.{list_all}
use Rattle.common_outcomes.specs.Answer.{has_ended_well}
use Rattle.outcomes_top.proofs.summary.have_finished.Given as goal

abbrev pub invariant-loop-outline : goal.invariant-loop-outline
invariant-loop-outline l = list_all has_ended_well (drop l.outline-index l.all) ≡ list_all has_ended_well l.all
