use Rattle.std.proofs.Common.{arith, length, ap}
use Rattle.bank_hall.specs.Halls.{HallView, PassView}
use Rattle.part_tests.proofs.halls.OneHall.post_here.Goals as goal

pub post-requires-clause-actor : goal.post-requires-clause-actor
post-requires-clause-actor g c =
    rw c.in-Core.is (omega (arith, c.if-core-eq0.true, c.self.invariant.5, ap (λ (v : HallView × PassView). length v.0.ports) c.self.view_is))

pub post-requires-in-Bank-clause-actor : goal.post-requires-in-Bank-clause-actor
post-requires-in-Bank-clause-actor g c =
    rw c.in-Bank.is (omega (arith, c.if-bank-eq0.true, c.self.invariant.4, ap (λ (v : HallView × PassView). length v.0.banks) c.self.view_is))
