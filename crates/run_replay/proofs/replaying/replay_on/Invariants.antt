use Rattle.std.proofs.Common.{◌≡◌, take}
use Rattle.run_replay.proofs.UnderWay.{IsUnderWay}
use Rattle.run_replay.proofs.replaying.replay_on.Given as goal

abbrev pub invariant-loop-event : goal.invariant-loop-event
invariant-loop-event l =
    record {
      way : IsUnderWay l.fn.machine.state.setting (take l.event-index l.events) l.machine.state l.machine.made l.log;
      number : l.number ≡ l.event-index;
    }
