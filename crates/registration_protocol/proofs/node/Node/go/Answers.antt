use Rattle.std.proofs.Common.{◌≡◌, false, arith}
use Rattle.std.proofs.lemmas.Bool.Decides.{nat_tests}
use Rattle.std.proofs.lemmas.Slice.Zip.{AllZip-long}
use Rattle.region_table.specs.Plan.{IsPlan}
use Rattle.registration_protocol.proofs.node.Node.go.Goals as goal

pub begin-requires-clause-phase : goal.begin-requires-clause-phase
begin-requires-clause-phase c =
    let going = c.if-not-self.true in
    let halted : c.args.self.now.halted ≡ false = grind (arith, nat_tests) in
    let below = c.requires.fits.phase halted in
    let same = AllZip-long (IsPlan c.args.context.now.decoded.now) c.args.context.now.decoded.now.phases c.args.context.now.plans.now c.requires.context.plans in
    omega arith
