use Rattle.std.proofs.Common.{take}
use Rattle.host_workers.specs.RoundOf.{HasNoted}
use Rattle.host_workers.proofs.noting.note_events.Given as goal

abbrev pub invariant-loop-entry : goal.invariant-loop-entry
invariant-loop-entry l = HasNoted (take l.entry-index l.merged) l.fn.log l.log
