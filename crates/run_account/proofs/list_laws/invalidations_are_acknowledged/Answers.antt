use Rattle.run_account.proofs.AddUp.{invalidations}
use Rattle.run_account.proofs.list_laws.invalidations_are_acknowledged.Goals as goal

pub returns : goal.returns
returns c = invalidations
