use Rattle.std.proofs.Common.{◌≡◌, ◌+◌, drop}
use Rattle.machine_rules.specs.Runs.{IsRun}
use Rattle.run_account.specs.Runs.{count_of_run}
use Rattle.run_account.proofs.listing.Listing.note_all.Given as goal

-- the events that are left lead to the end
abbrev pub invariant-loop-event : goal.invariant-loop-event
invariant-loop-event l =
    record {
      leads : count_of_run l.machine.state l.self (drop l.event-index l.events) ≡ count_of_run l.fn.machine.state l.fn.self l.events;
      comes : IsRun l.machine.state (drop l.event-index l.events) → IsRun l.fn.machine.state l.events;
      came : IsRun l.fn.machine.state l.events → IsRun l.machine.state (drop l.event-index l.events);
      setting : l.machine.state.setting ≡ l.fn.machine.state.setting;
      made : l.machine.made ≡ l.fn.machine.made + l.event-index;
    }
