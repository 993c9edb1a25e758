use Rattle.std.proofs.Common.{◌≡◌, drop}
use Rattle.flat_machine.specs.Grants.{first_grant}
use Rattle.flat_machine.proofs.machine.first_grant.Given as goal

abbrev pub invariant-loop-running : goal.invariant-loop-running
invariant-loop-running l =
    first_grant l.program l.fuel l.tasks (drop l.running-index l.tasks) ≡ first_grant l.program l.fuel l.tasks l.tasks
