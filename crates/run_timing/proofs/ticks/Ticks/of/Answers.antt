use Rattle.std.proofs.Common.{arith}
use Rattle.run_timing.proofs.ticks.Ticks.of.Goals as goal

pub returns-clause-most : goal.returns-clause-most
returns-clause-most c = omega (arith, (c.requires.events c.args.kind).1, c.kind_ticks.ensures)
