use Rattle.std.proofs.Common.{None, refl}
use Rattle.explained_answer.proofs.Steps.{if-ok}
use Rattle.explained_answer.proofs.SeveralLemmas.{all-explained}
use Rattle.explained_answer.proofs.several.push_all_answers.Goals as goal

pub returns : goal.returns
returns c =
    if-ok c.push_answers-2.result _ _
    (λ _ pushed.
    all-explained c.args.text.now c.args.located.now c.args.lines.now c.args.answers.now c.split_answers.result.0.now c.split_answers.result.1.now _ None c.args.out.now.items
    c.push_answers.new.out.items c.push_answers-2.new.out.items c.requires.again refl c.split_answers.ensures.first c.split_answers.ensures.others c.requires.answers c.in_ok-push_answers.ensures
    pushed)
    c.push_answers-2.ensures
