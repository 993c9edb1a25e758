use Rattle.std.proofs.Common.{◌≡◌, ◌++◌, drop, ◌+◌, true}
use Rattle.machine_rules.specs.Runs.{IsRun}
use Rattle.page_data.specs.Page.{event_rows}
use Rattle.page_data.proofs.events.make_rows.Given as goal

abbrev pub invariant-loop-event : goal.invariant-loop-event
invariant-loop-event l = record {
  run : IsRun l.machine.state (drop l.event-index l.events);
  setting : l.machine.state.setting ≡ l.fn.machine.state.setting;
  made : l.machine.made ≡ l.fn.machine.made + l.event-index;
  so_far : l.out.items ++ event_rows l.first l.machine.state (drop l.event-index l.events) ≡ l.fn.out.items ++ event_rows true l.fn.machine.state l.events;
}
