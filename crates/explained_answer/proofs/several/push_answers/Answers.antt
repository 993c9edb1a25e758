use Rattle.std.proofs.Common.{arith}
use Rattle.explained_answer.proofs.SeveralLemmas.{written-in-one, fit-in-one, one-more-explained, these-explained}
use Rattle.explained_answer.proofs.several.push_answers.Goals as goal

pub push_answer-requires-clause-written : goal.push_answer-requires-clause-written
push_answer-requires-clause-written c = written-in-one c.args.lines.now _ _ c.requires.written

pub push_answer-requires-clause-are : goal.push_answer-requires-clause-are
push_answer-requires-clause-are c = fit-in-one c.args.located.now c.args.lines.now _ _ c.requires.are

pub loop-answer-preserved : goal.loop-answer-preserved
loop-answer-preserved c =
    one-more-explained c.args.text.now c.args.located.now _ c.args.lines.now c.args.answers.now c.loop-answer.answer-index _ c.args.out.now.items c.loop-answer.out.items
    c.push_answer.new.out.items (omega (arith, c.loop-answer-test.true)) c.loop-answer.invariant c.in_ok-push_answer.ensures

pub returns : goal.returns
returns c =
    these-explained c.args.text.now c.args.located.now _ c.args.lines.now c.args.answers.now c.loop-answer.answer-index c.args.out.now.items c.loop-answer.out.items
    (omega (arith, c.loop-answer-test.false)) c.loop-answer.invariant
