use Rattle.std.proofs.Common.{◌≡◌, drop}
use Rattle.std.specs.List.{find}
use Rattle.common_outcomes.specs.Phases.{is_control_open}
use Rattle.outcomes_top.proofs.summary.open_control.Given as goal

abbrev pub invariant-loop-outline : goal.invariant-loop-outline
invariant-loop-outline l = find is_control_open (drop l.outline-index l.all) ≡ find is_control_open l.all
