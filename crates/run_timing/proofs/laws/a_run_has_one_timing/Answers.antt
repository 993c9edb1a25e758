use Rattle.run_timing.proofs.OneTiming.{one-timing}
use Rattle.run_timing.proofs.laws.a_run_has_one_timing.Goals as goal

pub returns : goal.returns
returns c = one-timing
