use Rattle.std.proofs.Common.{◌≡◌}
use Rattle.run_timing.proofs.Timed.{IsTimed}
use Rattle.run_timing.proofs.running.note_run.Given as goal

abbrev pub invariant-loop-event : goal.invariant-loop-event
invariant-loop-event l =
    record {
      timed : IsTimed l.ticks l.fn.machine.state.setting l.events l.event-index l.machine.state l.machine.made l.tracks.last l.tracks.senders.items l.rows;
      number : l.number ≡ l.event-index;
    }
