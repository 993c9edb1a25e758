use Rattle.std.proofs.Common.{◌≡◌, ◌++◌, ◌≤◌, ◌-◌}
use Rattle.run_changes.specs.Since.{locks_since}
use Rattle.run_changes.proofs.since.add_locks.Given as goal

abbrev pub invariant-loop-lock : goal.invariant-loop-lock
invariant-loop-lock l = record {
  within : l.lock ≤ l.locks;
  so_far : l.out ++ locks_since l.machine.state l.lock (l.locks - l.lock) ≡ l.fn.out ++ locks_since l.machine.state 0 l.locks;
}
