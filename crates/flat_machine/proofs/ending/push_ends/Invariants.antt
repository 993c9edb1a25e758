use Rattle.std.proofs.Common.{◌≡◌, ◌++◌, map, drop}
use Rattle.flat_machine.specs.Ending.{task_end}
use Rattle.flat_machine.proofs.ending.push_ends.Given as goal

abbrev pub invariant-loop-running : goal.invariant-loop-running
invariant-loop-running l =
    l.ends ++ map (task_end l.program l.fuel) (drop l.running-index l.tasks) ≡ l.fn.ends ++ map (task_end l.program l.fuel) l.tasks
