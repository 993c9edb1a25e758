use Rattle.std.proofs.Common.{◌≡◌, ◌++◌, ◌≤◌, ◌-◌}
use Rattle.run_changes.specs.Since.{cores_since}
use Rattle.run_changes.proofs.since.add_cores.Given as goal

abbrev pub invariant-loop-core : goal.invariant-loop-core
invariant-loop-core l = record {
  within : l.core ≤ l.cores;
  so_far : l.out ++ cores_since l.machine.state l.core (l.cores - l.core) ≡ l.fn.out ++ cores_since l.machine.state 0 l.cores;
}
