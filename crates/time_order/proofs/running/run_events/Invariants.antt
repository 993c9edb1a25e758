use Rattle.std.proofs.Common.{◌≡◌, ◌-◌}
use Rattle.time_order.proofs.Turns.{IsOnTime}
use Rattle.time_order.proofs.running.run_events.Given as goal

abbrev pub invariant-loop-place : goal.invariant-loop-place
invariant-loop-place l =
    record {
      on : IsOnTime l.ticks l.network l.fn.machine.state.setting l.machine.state l.machine.made l.log l.actors.free l.actors.queues.items l.actors.choices;
      shape : l.shape ≡ l.fn.machine.state.setting.shape;
    }

abbrev pub decreases-loop-place : goal.decreases-loop-place
decreases-loop-place l = 25169665 - l.machine.made
