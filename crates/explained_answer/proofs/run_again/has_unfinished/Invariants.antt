use Rattle.std.proofs.Common.{◌≡◌, drop}
use Rattle.std.specs.List.{list_any}
use Rattle.explained_answer.specs.RunAgain.{is_unfinished}
use Rattle.explained_answer.proofs.run_again.has_unfinished.Given as goal

-- none so far waits or is out of fuel
abbrev pub invariant-loop-task : goal.invariant-loop-task
invariant-loop-task l = list_any is_unfinished (drop l.task-index l.tasks) ≡ list_any is_unfinished l.tasks
