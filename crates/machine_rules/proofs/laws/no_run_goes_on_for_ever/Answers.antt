use Rattle.machine_rules.proofs.BoundRuns.{run-ends}
use Rattle.machine_rules.proofs.laws.no_run_goes_on_for_ever.Goals as goal

pub returns : goal.returns
returns c = run-ends
