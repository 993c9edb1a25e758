use Rattle.std.proofs.Common.{◌≡◌, ◌++◌, drop, ◌≤◌, ◌-◌, length}
use Rattle.run_changes.proofs.banks.queue_of.Given as goal

abbrev pub invariant-loop-core : goal.invariant-loop-core
invariant-loop-core l = record {
  within : l.index ≤ length l.home.queue;
  so_far : l.queue ++ drop l.index l.home.queue ≡ l.home.queue;
}

abbrev pub decreases-loop-core : goal.decreases-loop-core
decreases-loop-core l = length l.home.queue - l.index
