use Rattle.std.proofs.Common.{◌≡◌, drop}
use Rattle.flat_machine.specs.Grants.{is_free}
use Rattle.flat_machine.proofs.machine.is_free.Given as goal

abbrev pub invariant-loop-running : goal.invariant-loop-running
invariant-loop-running l = is_free (drop l.running-index l.tasks) l.lock.0 ≡ is_free l.tasks l.lock.0
