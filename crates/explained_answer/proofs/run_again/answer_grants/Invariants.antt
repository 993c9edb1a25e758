use Rattle.std.proofs.Common.{◌≡◌, ◌++◌, drop}
use Rattle.explained_answer.specs.Lines.{lines_in}
use Rattle.explained_answer.specs.Holders.{answer_grants}
use Rattle.explained_answer.proofs.run_again.answer_grants.Given as goal

-- those of the lines so far, and of the lines that are left
abbrev pub invariant-loop-read : goal.invariant-loop-read
invariant-loop-read l = l.grants.items ++ answer_grants (lines_in (drop l.read-index l.lines)) ≡ answer_grants (lines_in l.lines)
