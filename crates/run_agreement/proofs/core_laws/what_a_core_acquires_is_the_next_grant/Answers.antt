use Rattle.run_agreement.proofs.CoreByCore.{agreed-grant}
use Rattle.run_agreement.proofs.core_laws.what_a_core_acquires_is_the_next_grant.Goals as goal

pub returns : goal.returns
returns c = agreed-grant
