use Rattle.std.proofs.Common.{◌-◌, length}
use Rattle.explained_answer.proofs.SeveralLemmas.{AreAnswersBefore}
use Rattle.explained_answer.proofs.several.answers_in.Given as goal

-- the answers so far, and those of the lines that are left
abbrev pub invariant-answers : goal.invariant-answers
invariant-answers l = AreAnswersBefore l.lines l.start l.answers.items

abbrev pub decreases-answers : goal.decreases-answers
decreases-answers l = length l.lines - l.start
