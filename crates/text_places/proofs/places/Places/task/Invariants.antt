use Rattle.std.proofs.Common.{◌≡◌, drop}
use Rattle.std.specs.List.{find}
use Rattle.text_places.specs.Words.{is_task_of}
use Rattle.text_places.proofs.places.Places.task.Given as goal

-- none so far is the task
abbrev pub invariant-loop-task : goal.invariant-loop-task
invariant-loop-task l = find (is_task_of l.phase l.core) (drop l.task-index l.self.tasks) ≡ find (is_task_of l.phase l.core) l.self.tasks
