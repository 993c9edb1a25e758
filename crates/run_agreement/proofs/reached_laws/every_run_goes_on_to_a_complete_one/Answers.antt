use Rattle.run_agreement.proofs.Choosing.{completed}
use Rattle.run_agreement.proofs.reached_laws.every_run_goes_on_to_a_complete_one.Goals as goal

pub returns : goal.returns
returns c = completed
