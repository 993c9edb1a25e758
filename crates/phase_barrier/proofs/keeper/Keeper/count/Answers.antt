use Rattle.std.proofs.Common.{◌<◌, true, length, subst, sym, refl, arith, length-take}
use Rattle.std.proofs.Math.Seq.{take-set-lt}
use Rattle.std.specs.Prelude.{Bool}
use Rattle.phase_barrier.specs.Barrier.{Barrier}
use Rattle.phase_barrier.proofs.keeper.Keeper.count.Goals as goal

pub returns : goal.returns
returns c =
    let there = subst (λ (k : Barrier). c.args.core.0 < length k.arrived) (sym c.self.view_is) c.requires in
    let within : c.args.core.0 < c.self.inside.cores = omega (arith, there, length-take {A = Bool}) in
    rw (← c.self.view_is, take-set-lt c.self.inside.cores c.self.inside.arrived c.args.core.0 true within) refl
