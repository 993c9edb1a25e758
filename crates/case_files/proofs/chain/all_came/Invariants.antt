use Rattle.std.proofs.Common.{◌≡◌, length}
use Rattle.case_files.proofs.chain.all_came.Given as goal

abbrev pub invariant-loop-event : goal.invariant-loop-event
invariant-loop-event g l = length l.all.items ≡ l.event-index
