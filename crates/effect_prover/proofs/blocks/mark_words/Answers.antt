use Rattle.std.proofs.Common.{◌≡◌, ℕ, length, ◌∙◌, subst, arith}
use Rattle.effect_prover.specs.Blocks.{AreLed}
use Rattle.effect_prover.proofs.BlockLemmas.{led-first}
use Rattle.effect_prover.proofs.blocks.mark_words.Goals as goal

pub loop-place-init : goal.loop-place-init
loop-place-init c = led-first c.args.program.now.code c.mark_first.new.leaders (c.mark_first.ensures.more.words ∙ c.requires.words) c.mark_first.ensures.first

pub returns : goal.returns
returns c =
    let code = c.args.program.now.code in
    let past = c.loop-place-test.false in
    let all : c.loop-place.place ≡ length code = omega arith in
    subst (λ (n : ℕ). AreLed code n c.loop-place.leaders) all c.loop-place.invariant
