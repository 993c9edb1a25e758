use Rattle.std.proofs.Common.{◌≡◌, ◌++◌, drop}
use Rattle.run_replay.specs.Document.{event_lines}
use Rattle.run_replay.proofs.writing.push_events.Given as goal

abbrev pub invariant-loop-event : goal.invariant-loop-event
invariant-loop-event l = l.out.items ++ event_lines (drop l.event-index l.events) ≡ l.fn.out.items ++ event_lines l.events
