use Rattle.run_account.proofs.Placed.{groups-add-up}
use Rattle.run_account.proofs.list_laws.groups_beside_lists_add_up.Goals as goal

pub returns : goal.returns
returns c = groups-add-up
