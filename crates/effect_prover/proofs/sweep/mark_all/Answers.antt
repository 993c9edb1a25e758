use Rattle.std.proofs.Common.{◌≡◌, ℕ, length, subst, arith}
use Rattle.effect_prover.specs.Sweep.{AreMarked}
use Rattle.effect_prover.proofs.TableLemmas.{mark-last}
use Rattle.effect_prover.proofs.sweep.mark_all.Goals as goal

pub returns : goal.returns
returns c =
    let code = c.args.program.now.code in
    let words = c.loop-place.invariant.words in
    let past = c.loop-place-test.false in
    let all : c.loop-place.place ≡ length code = omega arith in
    mark-last code c.loop-place.heads words (subst (λ (n : ℕ). AreMarked code n c.loop-place.heads) all c.loop-place.invariant.marked)
