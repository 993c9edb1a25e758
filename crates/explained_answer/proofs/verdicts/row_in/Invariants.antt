use Rattle.std.proofs.Common.{◌≡◌, drop, find}
use Rattle.explained_answer.specs.Verdicts.{has_form}
use Rattle.explained_answer.proofs.verdicts.row_in.Given as goal

abbrev pub invariant-loop-row : goal.invariant-loop-row
invariant-loop-row l = find (has_form l.line) (drop l.row-index l.rows) ≡ find (has_form l.line) l.rows
