use Rattle.std.proofs.Common.{◌≡◌, drop}
use Rattle.common_outcomes.specs.Answer.{first_held}
use Rattle.outcomes_top.proofs.summary.first_held.Given as goal

abbrev pub invariant-loop-outline : goal.invariant-loop-outline
invariant-loop-outline l = first_held l.phase.0 l.all (drop l.outline-index l.all) ≡ first_held l.phase.0 l.all l.all
