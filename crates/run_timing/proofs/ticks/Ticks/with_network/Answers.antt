use Rattle.run_timing.proofs.ByPlace.{with-network}
use Rattle.run_timing.proofs.ticks.Ticks.with_network.Goals as goal

pub returns-clause-limits : goal.returns-clause-limits
returns-clause-limits c = with-network c.args.self c.args.network c.requires.limits c.requires.latency
