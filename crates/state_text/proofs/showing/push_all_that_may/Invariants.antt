use Rattle.std.proofs.Common.{◌≡◌, ◌++◌, drop, flat_map}
use Rattle.state_text.specs.Shown.{may_come_line}
use Rattle.state_text.proofs.showing.push_all_that_may.Given as goal

abbrev pub invariant-loop-event : goal.invariant-loop-event
invariant-loop-event l =
    l.out.items ++ flat_map (may_come_line l.program) (drop l.event-index l.events) ≡ l.fn.out.items ++ flat_map (may_come_line l.program) l.events
