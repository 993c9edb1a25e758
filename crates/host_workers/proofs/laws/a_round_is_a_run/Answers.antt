use Rattle.host_workers.proofs.RoundRuns.{round-runs}
use Rattle.host_workers.proofs.laws.a_round_is_a_run.Goals as goal

pub returns : goal.returns
returns c = round-runs
