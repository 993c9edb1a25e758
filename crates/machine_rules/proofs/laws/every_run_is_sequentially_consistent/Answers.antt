use Rattle.machine_rules.proofs.Sequential.{well-sequential}
use Rattle.machine_rules.proofs.laws.every_run_is_sequentially_consistent.Goals as goal

pub returns : goal.returns
returns c = well-sequential
