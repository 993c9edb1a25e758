use Rattle.std.proofs.Common.{◌≡◌, ◌++◌, map}
use Rattle.flat_machine.specs.Ending.{task_loads}
use Rattle.flat_machine.proofs.ending.push_loads.Given as goal

abbrev pub invariant-loop-running : goal.invariant-loop-running
invariant-loop-running l = l.loads ≡ l.fn.loads ++ map task_loads l.yielded
