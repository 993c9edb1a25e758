use Rattle.std.proofs.Common.{◌≡◌, ◌++◌, drop, flat_map}
use Rattle.run_report.specs.Answer.{task_line_without_retired}
use Rattle.run_report.proofs.answer.push_tasks_without_retired.Given as goal

abbrev pub invariant-loop-task : goal.invariant-loop-task
invariant-loop-task l = l.out.items ++ flat_map task_line_without_retired (drop l.task-index l.tasks) ≡ l.fn.out.items ++ flat_map task_line_without_retired l.tasks
