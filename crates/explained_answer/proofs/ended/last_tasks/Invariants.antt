use Rattle.std.proofs.Common.{◌≡◌, take, length}
use Rattle.explained_answer.specs.Ended.{answer_tasks, AreLastTasks}
use Rattle.explained_answer.specs.Lines.{lines_in}
use Rattle.explained_answer.proofs.ended.last_tasks.Given as goal

-- the tasks so far
abbrev pub invariant-loop-read : goal.invariant-loop-read
invariant-loop-read l = AreLastTasks (answer_tasks (lines_in (take l.read-index l.lines))) l.last.items × (length l.last.items ≡ 16)
