use Rattle.std.proofs.Common.{◌≡◌, drop}
use Rattle.explained_answer.specs.Verdicts.{is_of_form}
use Rattle.explained_answer.proofs.verdict_forms.is_of_form.Given as goal

abbrev pub invariant-loop-sign : goal.invariant-loop-sign
invariant-loop-sign l = is_of_form (drop l.sign-index l.form) l.rest ≡ is_of_form l.form l.line
