use Rattle.std.proofs.Common.{◌≡◌, ◌++◌, ◌≤◌, ◌-◌, length}
use Rattle.run_changes.specs.Changes.{arrived_from}
use Rattle.run_changes.proofs.banks.arrived_at.Given as goal

abbrev pub invariant-loop-core : goal.invariant-loop-core
invariant-loop-core l = record {
  within : l.core ≤ length l.keeper.arrived;
  so_far : l.arrived ++ arrived_from l.keeper l.core (length l.keeper.arrived - l.core) ≡ arrived_from l.keeper 0 (length l.keeper.arrived);
}
