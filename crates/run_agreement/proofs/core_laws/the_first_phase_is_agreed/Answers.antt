use Rattle.run_agreement.proofs.CoreByCore.{agreed-opens}
use Rattle.run_agreement.proofs.core_laws.the_first_phase_is_agreed.Goals as goal

pub returns : goal.returns
returns c = agreed-opens
