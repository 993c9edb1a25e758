use Rattle.std.proofs.Common.{◌≡◌, take}
use Rattle.machine_rules.specs.Runs.{after, IsRun}
use Rattle.state_text.proofs.reaching.follow.Given as goal

-- the events so far came one after the other, and lead to the machine's state
abbrev pub invariant-loop-event : goal.invariant-loop-event
invariant-loop-event l =
    record {
      run : IsRun l.fn.machine.state (take l.event-index l.events);
      leads : l.machine.state ≡ after l.fn.machine.state (take l.event-index l.events);
      came : l.came ≡ l.event-index;
      made : l.machine.made ≡ l.event-index;
    }
