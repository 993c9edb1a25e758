use Rattle.std.proofs.Common.{◌≡◌, drop, find}
use Rattle.flat_machine.specs.Faults.{task_holds}
use Rattle.flat_machine.proofs.faults.holder_of.Given as goal

abbrev pub invariant-loop-running : goal.invariant-loop-running
invariant-loop-running l = find (task_holds l.lock.0) (drop l.running-index l.tasks) ≡ find (task_holds l.lock.0) l.tasks
