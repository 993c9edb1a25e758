use Rattle.std.proofs.Common.{sym, subst}
use Rattle.run_report.specs.Run.{all_kinds}
use Rattle.run_timing.specs.declared.network.Network.{Network}
use Rattle.run_timing.specs.Ticks.{AreWithinLimits, through, ticks_by}
use Rattle.run_timing.proofs.ByPlace.{by_place-within}
use Rattle.run_timing.proofs.ticks.Ticks.by_place.Goals as goal

pub returns-clause-limits : goal.returns-clause-limits
unfolding all_kinds
returns-clause-limits c =
    subst (λ (n : Network). AreWithinLimits (through n (ticks_by c.args.core c.args.bank c.args.mail))) (sym c.no_latency.ensures)
    (by_place-within c.args.core c.args.bank c.args.mail c.requires.core c.requires.bank c.requires.mail)
