use Rattle.std.proofs.Common.{◌≡◌, ◌+◌, drop, sum_by}
use Rattle.run_timing.specs.Rows.{ticks_of_link}
use Rattle.run_timing.proofs.way.without_events.Given as goal

abbrev pub invariant-loop-link : goal.invariant-loop-link
invariant-loop-link l = l.left + sum_by (ticks_of_link l.ticks) l.links ≡ l.total + sum_by (ticks_of_link l.ticks) (drop l.link-index l.links)
