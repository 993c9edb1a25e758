use Rattle.std.proofs.Common.{◌≡◌, ◌++◌, drop}
use Rattle.explained_answer.specs.Verdicts.{pieces}
use Rattle.explained_answer.proofs.verdict_forms.pieces.Given as goal

abbrev pub invariant-loop-sign : goal.invariant-loop-sign
invariant-loop-sign l = l.found ++ pieces (drop l.sign-index l.form) l.rest ≡ pieces l.form l.line
