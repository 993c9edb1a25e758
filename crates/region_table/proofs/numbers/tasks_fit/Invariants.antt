use Rattle.std.proofs.Common.{take}
use Rattle.std.specs.List.{All}
use Rattle.region_table.specs.Numbers.{IsOfWords}
use Rattle.region_table.proofs.numbers.tasks_fit.Given as goal

abbrev pub invariant-loop-task : goal.invariant-loop-task
invariant-loop-task l = All IsOfWords (take l.task-index l.tasks)
