use Rattle.std.proofs.Common.{ap, ◌∙◌, arith}
use Rattle.std.specs.Option.{option_or}
use Rattle.explained_answer.specs.Ended.{trapped_on}
use Rattle.explained_answer.proofs.EndedLemmas.{first-more}
use Rattle.explained_answer.proofs.ended.first_trapped.Goals as goal

pub loop-read-preserved : goal.loop-read-preserved
loop-read-preserved c =
    first-more trapped_on c.args.lines.now c.loop-read.read-index _ c.loop-read.first c.or-first.result (omega (arith, c.loop-read-test.true))
    c.loop-read.invariant (c.or-first.ensures ∙ ap (option_or c.loop-read.first) c.trapped_on.ensures)
