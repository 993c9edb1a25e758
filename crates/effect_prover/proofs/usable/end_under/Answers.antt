use Rattle.std.proofs.Common.{◌+◌, take, sym, subst}
use Rattle.rv_core.specs.Access.{under}
use Rattle.effect_prover.specs.Stretch.{IsStretch}
use Rattle.effect_prover.proofs.StretchLemmas.{stretch-first, stretch-push, stretch-all}
use Rattle.effect_prover.proofs.usable.end_under.Goals as goal

pub loop-lock-init : goal.loop-lock-init
loop-lock-init c = stretch-first c.args.sets.now c.args.held c.args.word

pub returns : goal.returns
returns c = stretch-all c.args.sets.now c.loop-lock.lock c.args.held c.args.word c.loop-lock.end c.loop-lock-test.false c.loop-lock.invariant

pub loop-lock-preserved : goal.loop-lock-preserved
loop-lock-preserved c =
    let sets = c.args.sets.now in
    let k = c.loop-lock.lock in
    subst (IsStretch (under (take (k + 1) sets) 0 c.args.held) c.args.word) (sym c.greater-end.ensures)
    (stretch-push sets k c.index-sets-lock.result c.args.held c.args.word c.loop-lock.end c.end_held.result c.index-sets-lock.is c.loop-lock-test.true c.loop-lock.invariant c.end_held.ensures)
