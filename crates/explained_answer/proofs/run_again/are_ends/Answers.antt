use Rattle.std.proofs.Common.{sym, ◌∙◌, arith}
use Rattle.explained_answer.proofs.RunAgainLemmas.{more-wanted}
use Rattle.explained_answer.proofs.run_again.are_ends.Goals as goal

pub returns-in-empty : goal.returns-in-empty
returns-in-empty c =
    sym (more-wanted c.args.ends.now c.loop-end.end-index c.loop-end.rest.now (omega (arith, c.loop-end-test.true)) (omega (arith, c.in-empty.len_below)))
    ∙ c.loop-end.invariant
