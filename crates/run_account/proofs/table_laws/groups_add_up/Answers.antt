use Rattle.run_account.proofs.Sums.{groups-sum}
use Rattle.run_account.proofs.table_laws.groups_add_up.Goals as goal

pub returns : goal.returns
returns c = groups-sum
