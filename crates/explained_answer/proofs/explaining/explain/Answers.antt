use Rattle.explained_answer.proofs.Steps.{if-ok}
use Rattle.explained_answer.proofs.WholeAnswers.{listing-taken, trace-repeated}
use Rattle.explained_answer.proofs.Unlisted.{document-unlisted}
use Rattle.explained_answer.proofs.AllTaken.{all-taken}
use Rattle.explained_answer.proofs.explaining.explain.Goals as goal

pub returns-clause-listing : goal.returns-clause-listing
returns-clause-listing c =
    let text = c.args.text.now in
    let answer = c.args.answer.now in
    if-ok c.explained_text.result _ _ (λ e h. λ l located is. listing-taken text answer l located is e h) c.explained_text.ensures

pub returns-clause-trace : goal.returns-clause-trace
returns-clause-trace c =
    let text = c.args.text.now in
    let answer = c.args.answer.now in
    if-ok c.explained_text.result _ _ (λ e h. λ l t located none is. trace-repeated text answer l located t none (document-unlisted text l answer t is) is e h) c.explained_text.ensures

pub returns-clause-taken : goal.returns-clause-taken
returns-clause-taken c =
    let text = c.args.text.now in
    let answer = c.args.answer.now in
    if-ok c.explained_text.result _ _ (λ e h. λ l lines located none are is. all-taken text answer l located lines are is none e h) c.explained_text.ensures
