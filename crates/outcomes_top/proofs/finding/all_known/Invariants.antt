use Rattle.std.proofs.Common.{◌≡◌, map, take}
use Rattle.common_outcomes.specs.Values.{known}
use Rattle.outcomes_top.proofs.finding.all_known.Given as goal

abbrev pub invariant-loop-number : goal.invariant-loop-number
invariant-loop-number l = l.values.items ≡ map known (take l.number-index l.memory)
