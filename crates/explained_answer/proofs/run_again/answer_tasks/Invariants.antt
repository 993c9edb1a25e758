use Rattle.std.proofs.Common.{◌≡◌, ◌++◌, drop}
use Rattle.explained_answer.specs.Lines.{lines_in}
use Rattle.explained_answer.specs.Ended.{answer_tasks}
use Rattle.explained_answer.proofs.run_again.answer_tasks.Given as goal

-- those of the lines so far, and of the lines that are left
abbrev pub invariant-loop-read : goal.invariant-loop-read
invariant-loop-read l = l.tasks.items ++ answer_tasks (lines_in (drop l.read-index l.lines)) ≡ answer_tasks (lines_in l.lines)
