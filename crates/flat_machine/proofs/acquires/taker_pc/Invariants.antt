use Rattle.std.proofs.Common.{◌≡◌, drop, find}
use Rattle.flat_machine.specs.Grants.{can_take}
use Rattle.flat_machine.proofs.acquires.taker_pc.Given as goal

abbrev pub invariant-loop-running : goal.invariant-loop-running
invariant-loop-running l =
    find (can_take l.program l.fuel l.tasks l.given) (drop l.running-index l.tasks) ≡ find (can_take l.program l.fuel l.tasks l.given) l.tasks
