use Rattle.std.proofs.Common.{sym, arith}
use Rattle.sweep_top.proofs.Tallies.{within-lookup}
use Rattle.sweep_top.proofs.tally.raised_count.Goals as goal

pub again-requires : goal.again-requires
again-requires c =
    let low = within-lookup 4294967294 c.args.text.now c.args.answers.now.entries c.in-Some.count.now c.requires (sym c.in-Some.ensures.value) in
    omega (arith, low)
