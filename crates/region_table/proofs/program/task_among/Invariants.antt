use Rattle.std.proofs.Common.{◌≡◌, drop}
use Rattle.std.specs.List.{find}
use Rattle.region_table.specs.Tasks.{is_for}
use Rattle.region_table.proofs.program.task_among.Given as goal

abbrev pub invariant-loop-task : goal.invariant-loop-task
invariant-loop-task l = find (is_for l.core.0) (drop l.task-index l.tasks) ≡ find (is_for l.core.0) l.tasks
