use Rattle.run_agreement.proofs.Granting.{run-grant}
use Rattle.run_agreement.proofs.core_laws.a_grant_is_the_next_of_the_run.Goals as goal

pub returns : goal.returns
returns c = run-grant
