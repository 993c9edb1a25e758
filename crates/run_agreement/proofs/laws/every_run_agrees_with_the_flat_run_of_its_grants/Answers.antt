use Rattle.run_agreement.proofs.PrefixAgrees.{well-agrees}
use Rattle.run_agreement.proofs.laws.every_run_agrees_with_the_flat_run_of_its_grants.Goals as goal

pub returns : goal.returns
returns c = well-agrees
