use Rattle.std.proofs.Common.{◌≡◌, drop, find}
use Rattle.flat_machine.specs.Faults.{is_of_core}
use Rattle.flat_machine.proofs.faults.task_of.Given as goal

abbrev pub invariant-loop-running : goal.invariant-loop-running
invariant-loop-running l = find (is_of_core l.core.0) (drop l.running-index l.tasks) ≡ find (is_of_core l.core.0) l.tasks
