use Rattle.run_account.proofs.Grouped.{cores-sum}
use Rattle.run_account.proofs.laws.cores_add_up.Goals as goal

pub returns : goal.returns
returns c = cores-sum
