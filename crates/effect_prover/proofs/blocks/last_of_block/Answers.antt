use Rattle.std.proofs.Common.{length, Some, sym, ◌∙◌, arith}
use Rattle.std.proofs.lemmas.Bool.{false≢true}
use Rattle.effect_prover.proofs.BlockLemmas.{leader-next, filled-next, last-here}
use Rattle.effect_prover.proofs.blocks.last_of_block.Goals as goal

pub loop-last-preserved : goal.loop-last-preserved
loop-last-preserved c =
    let P = c.args.program.now in
    let L = c.args.leaders.now in
    let at' = c.loop-last.last.place in
    let on = c.goes_on.ensures.0 c.loop-last-test.true in
    let more = on.0 in
    let words = c.requires.led.words in
    record {
      within = omega arith;
      block = leader-next L at' on.1 ∙ c.loop-last.invariant.block;
      reached = λ t e. filled-next P L t at' (Some c.loop-last.last.row) on.1 (c.loop-last.invariant.reached t e) ∙ c.step_at.ensures.value;
      row = c.step_at.ensures.row;
    }

pub returns-clause-last : goal.returns-clause-last
returns-clause-last c =
    last-here c.args.leaders.now (length c.args.program.now.code) c.loop-last.last.place c.loop-last.invariant.within c.requires.led.words
    (λ k. false≢true (sym c.loop-last-test.false ∙ c.goes_on.ensures.1 k))
