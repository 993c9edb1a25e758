use Rattle.run_agreement.proofs.Granting.{run-step}
use Rattle.run_agreement.proofs.core_laws.a_step_keeps_the_run.Goals as goal

pub returns : goal.returns
returns c = run-step
