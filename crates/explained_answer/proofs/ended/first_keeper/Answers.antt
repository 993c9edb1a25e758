use Rattle.std.proofs.Common.{ap, ◌∙◌, arith}
use Rattle.std.specs.Option.{option_or}
use Rattle.explained_answer.specs.Holders.{answer_grants}
use Rattle.explained_answer.specs.Ended.{answer_tasks, if_cut, keeper_on}
use Rattle.explained_answer.specs.Lines.{lines_in}
use Rattle.explained_answer.proofs.EndedLemmas.{first-more}
use Rattle.explained_answer.proofs.ended.first_keeper.Goals as goal

pub loop-read-preserved : goal.loop-read-preserved
loop-read-preserved c =
    let lines = lines_in c.args.lines.now in
    first-more (keeper_on (answer_grants lines) (answer_tasks lines)) c.args.lines.now c.loop-read.read-index _ c.loop-read.first c.or-first.result
    (omega (arith, c.loop-read-test.true)) c.loop-read.invariant
    (c.or-first.ensures ∙ ap (option_or c.loop-read.first) (c.if_cut.ensures ∙ ap if_cut (c.ended_holder.ensures lines c.requires)))
