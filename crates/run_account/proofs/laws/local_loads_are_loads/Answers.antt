use Rattle.run_account.proofs.Reasons.{few-local-loads}
use Rattle.run_account.proofs.laws.local_loads_are_loads.Goals as goal

pub returns : goal.returns
returns c = few-local-loads
