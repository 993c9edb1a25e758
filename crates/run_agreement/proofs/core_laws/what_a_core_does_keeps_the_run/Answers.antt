use Rattle.run_agreement.proofs.CoreByCore.{agreed-step}
use Rattle.run_agreement.proofs.core_laws.what_a_core_does_keeps_the_run.Goals as goal

pub returns : goal.returns
returns c = agreed-step
