use Rattle.std.proofs.Common.{◌≡◌, ◌++◌, Ok, length, map}
use Rattle.host_workers.proofs.working.move_jobs.Given as goal

abbrev pub invariant-loop-done : goal.invariant-loop-done
invariant-loop-done l = l.dones.items ++ map Ok l.jobs.items ≡ l.fn.dones.items ++ map Ok l.fn.jobs.items

abbrev pub decreases-loop-done : goal.decreases-loop-done
decreases-loop-done l = length l.dones.items
