use Rattle.std.proofs.Common.{◌≤◌, length, arith}
use Rattle.std.proofs.lemmas.List.{length-take-le}
use Rattle.std.proofs.lemmas.Bool.Decides.{nat_tests}
use Rattle.phase_barrier.proofs.Flags.{no_marks}
use Rattle.phase_barrier.proofs.keeper.Keeper.release.Goals as goal

pub returns-clause-keeper : goal.returns-clause-keeper
returns-clause-keeper c =
    let within : c.self.inside.cores ≤ length c.self.inside.arrived = omega (arith, c.self.told, c.self.invariant.0) in
    let count = length-take-le c.self.inside.cores c.self.inside.arrived within in
    rw (no_marks c.self.inside.cores c.self.invariant.0, ← c.self.view_is, count) (grind (arith, nat_tests))
