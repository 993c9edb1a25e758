use Rattle.std.proofs.Common.{option_copied, ◌∙◌, arith}
use Rattle.explained_answer.specs.Lines.{lines_in}
use Rattle.explained_answer.specs.RunAgain.{answer_again}
use Rattle.explained_answer.proofs.GrantLemmas.{more-explained}
use Rattle.explained_answer.proofs.several.push_answer.Goals as goal

pub loop-read-preserved : goal.loop-read-preserved
loop-read-preserved c =
    more-explained c.args.text.now c.args.located.now c.args.lines.now (answer_again (option_copied c.args.again) (lines_in c.args.lines.now)) c.in_ok-told.told c.loop-read.read-index _
    c.args.out.now.items c.loop-read.out.items c.push_explained.new.out.items c.standstill_on-still.result c.named_on-named.result (omega (arith, c.loop-read-test.true))
    c.in_ok-told.ensures (c.standstill_on-still.ensures (lines_in c.args.lines.now) c.in_ok-last.ensures) c.named_on-named.ensures
    c.loop-read.invariant c.in_ok-push_explained.ensures
