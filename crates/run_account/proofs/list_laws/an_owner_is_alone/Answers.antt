use Rattle.run_account.proofs.Alone.{owner-alone}
use Rattle.run_account.proofs.list_laws.an_owner_is_alone.Goals as goal

pub returns : goal.returns
returns c = owner-alone
