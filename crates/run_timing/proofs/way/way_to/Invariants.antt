use Rattle.run_timing.proofs.Ways.{IsWayFrom, steps_to}
use Rattle.run_timing.proofs.way.way_to.Given as goal

abbrev pub invariant-loop-next : goal.invariant-loop-next
invariant-loop-next l = IsWayFrom l.rows l.next l.initial.next l.links.items

abbrev pub decreases-loop-next : goal.decreases-loop-next
decreases-loop-next l = steps_to l.next
