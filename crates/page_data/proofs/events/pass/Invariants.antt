use Rattle.std.proofs.Common.{◌≡◌, ◌+◌, drop}
use Rattle.machine_rules.specs.Runs.{after, IsRun}
use Rattle.page_data.proofs.events.pass.Given as goal

abbrev pub invariant-loop-event : goal.invariant-loop-event
invariant-loop-event l = record {
  run : IsRun l.machine.state (drop l.event-index l.events);
  setting : l.machine.state.setting ≡ l.fn.machine.state.setting;
  made : l.machine.made ≡ l.fn.machine.made + l.event-index;
  so_far : after l.machine.state (drop l.event-index l.events) ≡ after l.fn.machine.state l.events;
}
