use Rattle.effect_checker.specs.Faults.{IsGuardedPlain}
use Rattle.effect_checker.proofs.FirstLemmas.{guarded_first, guarded-exposes, none_below_more}
use Rattle.effect_checker.proofs.searching.first_guarded_plain.Goals as goal

pub returns-in-Some-clause-some : goal.returns-in-Some-clause-some
returns-in-Some-clause-some c = guarded_first c.args.tasks.now c.loop-lock.lock _ _ c.loop-lock.invariant c.in-Some.ensures.some

pub loop-lock-preserved : goal.loop-lock-preserved
loop-lock-preserved c =
    none_below_more (IsGuardedPlain c.args.tasks.now) c.loop-lock.lock c.loop-lock.invariant
    (λ core w h. c.in_default.ensures.none core w (guarded-exposes c.args.tasks.now c.loop-lock.lock core w h))
