use Rattle.effect_prover.specs.Blocks.{AreLed}
use Rattle.effect_prover.proofs.blocks.mark_words.Given as goal

abbrev pub invariant-loop-place : goal.invariant-loop-place
invariant-loop-place l = AreLed l.program.code l.place l.leaders
