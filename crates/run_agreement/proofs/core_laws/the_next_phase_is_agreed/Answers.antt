use Rattle.run_agreement.proofs.CoreByCore.{agreed-begin}
use Rattle.run_agreement.proofs.core_laws.the_next_phase_is_agreed.Goals as goal

pub returns : goal.returns
returns c = agreed-begin
