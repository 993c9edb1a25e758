use Rattle.run_agreement.proofs.EndAgrees.{well-ends}
use Rattle.run_agreement.proofs.laws.every_complete_run_has_the_end_of_the_flat_run.Goals as goal

pub returns : goal.returns
returns c = well-ends
