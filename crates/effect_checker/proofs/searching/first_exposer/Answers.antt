use Rattle.effect_checker.specs.Least.{exposes}
use Rattle.effect_checker.proofs.CoreLemmas.{first_passing, none_whole}
use Rattle.effect_checker.proofs.FirstLemmas.{exposes-guarded}
use Rattle.effect_checker.proofs.searching.first_exposer.Goals as goal

pub returns-in-Some-clause-some : goal.returns-in-Some-clause-some
returns-in-Some-clause-some c =
    first_passing (exposes c.args.tasks.now c.args.lock) c.args.tasks.now c.loop-user.user-index _ c.user-item.result c.requires.rising (record { within = c.loop-user-test.true; is = c.user-item.is }) c.loop-user.invariant
    c.in-Some.ensures

pub returns-clause-none : goal.returns-clause-none
returns-clause-none c =
    none_whole (exposes c.args.tasks.now c.args.lock) c.args.tasks.now c.loop-user.user-index c.loop-user.auto.user-index-end c.loop-user-test.false c.loop-user.invariant

pub returns-then-is_never_plain-clause-none : goal.returns-then-is_never_plain-clause-none
returns-then-is_never_plain-clause-none c = λ core w h.
    c.is_never_plain.ensures c.if-is_never_plain.true core w (exposes-guarded c.args.tasks.now c.args.lock core w h)
