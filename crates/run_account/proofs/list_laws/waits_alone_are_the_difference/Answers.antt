use Rattle.run_account.proofs.AddUp.{waits}
use Rattle.run_account.proofs.list_laws.waits_alone_are_the_difference.Goals as goal

pub returns : goal.returns
returns c = waits
