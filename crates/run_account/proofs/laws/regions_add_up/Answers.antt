use Rattle.run_account.proofs.Grouped.{regions-sum}
use Rattle.run_account.proofs.laws.regions_add_up.Goals as goal

pub returns : goal.returns
returns c = regions-sum
