use Rattle.std.proofs.Common.{◌≡◌, ◌++◌, drop}
use Rattle.run_chart.specs.Keeping.{tasks_from}
use Rattle.run_chart.proofs.keeping.waiting_tasks.Given as goal

abbrev pub invariant-loop-task : goal.invariant-loop-task
invariant-loop-task l = l.kept ++ tasks_from l.marks l.line (drop l.task-index l.tasks) ≡ tasks_from l.marks l.fn.line l.tasks
