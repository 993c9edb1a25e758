use Rattle.std.proofs.Common.{refl, arith}
use Rattle.explained_answer.proofs.SeveralLemmas.{AreAnswersBefore, no-answers, one-more, are-all}
use Rattle.explained_answer.proofs.several.answers_in.Goals as goal

pub answers-init : goal.answers-init
answers-init c =
    let none : AreAnswersBefore c.args.lines.now 0 c.new-answers.result.items = rw c.new-answers.ensures.items (no-answers c.args.lines.now) in
    none

pub answers-preserved : goal.answers-preserved
answers-preserved c =
    one-more c.args.lines.now c.answers.start c.answer_end-end.result c.answers.answers.items c.push.new.self.items _ c.answers.invariant c.in_ok-push.ensures.items refl refl
    c.answer_end-end.ensures.on c.answer_end-end.ensures.within c.answer_end-end.ensures.first

pub returns-clause-are : goal.returns-clause-are
returns-clause-are c = are-all c.args.lines.now c.answers.start c.answers.answers.items c.answers.invariant (omega (arith, c.answers-test.false))

pub returns-clause-within : goal.returns-clause-within
returns-clause-within c = c.answers.invariant.within
