use Rattle.std.proofs.Common.{◌≡◌, drop}
use Rattle.run_chart.specs.Drawing.{led_to}
use Rattle.run_chart.proofs.drawing.pass.Given as goal

abbrev pub invariant-loop-event : goal.invariant-loop-event
invariant-loop-event l =
    record {
      made : l.machine.made ≡ l.event-index;
      setting : l.machine.state.setting ≡ l.fn.machine.state.setting;
      so_far : led_to l.machine (drop l.event-index l.events) ≡ led_to l.fn.machine l.events;
    }
