use Rattle.std.proofs.Common.{◌≡◌, IfOk, subst}
use Rattle.explained_answer.proofs.VerdictLemmas.{located-explained}
use Rattle.explained_answer.specs.declared.explaining.Explained.{Explained}
use Rattle.explained_answer.proofs.verdicts.explain_verdict.Goals as goal

pub returns-in-Ok : goal.returns-in-Ok
returns-in-Ok c =
    let same = located-explained c.args.text.now c.args.answer.now c.in-Ok.located c.in-Ok.ensures.program c.in-Ok.ensures.places in
    subst (λ (wanted : Explained). IfOk c.located_verdict.result (λ e. e ≡ wanted)) same c.located_verdict.ensures
