use Rattle.machine_rules.proofs.BoundRuns.{well-few}
use Rattle.machine_rules.proofs.laws.a_run_has_few_events.Goals as goal

pub returns : goal.returns
returns c = well-few
