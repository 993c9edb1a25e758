use Rattle.run_account.proofs.AddUp.{requests}
use Rattle.run_account.proofs.list_laws.requests_are_answered.Goals as goal

pub returns : goal.returns
returns c = requests
