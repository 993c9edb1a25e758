use Rattle.std.proofs.Common.{◌≡◌, map, drop, length}
use Rattle.common_outcomes.specs.Values.{known}
use Rattle.outcomes_top.specs.Reasons.{reason_from}
use Rattle.outcomes_top.proofs.why.reason_by.Given as goal

abbrev pub invariant-loop-number : goal.invariant-loop-number
invariant-loop-number l = record {
  leads : reason_from l.program l.fuel l.number (drop l.number l.program.phases) l.now.memory.items ≡ reason_from l.program l.fuel 0 l.program.phases (map known l.program.memory);
  words : length l.now.memory.items ≡ length l.program.memory;
}
