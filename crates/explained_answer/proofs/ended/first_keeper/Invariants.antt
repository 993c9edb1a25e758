use Rattle.std.proofs.Common.{◌≡◌, take}
use Rattle.explained_answer.specs.Holders.{answer_grants}
use Rattle.explained_answer.specs.Ended.{answer_tasks, keeper_on, first_by}
use Rattle.explained_answer.specs.Lines.{lines_in}
use Rattle.explained_answer.proofs.ended.first_keeper.Given as goal

-- the first of the lines so far
abbrev pub invariant-loop-read : goal.invariant-loop-read
invariant-loop-read l =
    l.first ≡ first_by (keeper_on (answer_grants (lines_in l.lines)) (answer_tasks (lines_in l.lines))) (lines_in (take l.read-index l.lines))
