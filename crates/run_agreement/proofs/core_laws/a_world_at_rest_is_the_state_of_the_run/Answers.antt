use Rattle.run_agreement.proofs.Agreeing.{run-reaches}
use Rattle.run_agreement.proofs.Settled.{rest-same}
use Rattle.run_agreement.proofs.core_laws.a_world_at_rest_is_the_state_of_the_run.Goals as goal

pub returns-clause-same : goal.returns-clause-same
returns-clause-same c = rest-same

pub returns-clause-run : goal.returns-clause-run
returns-clause-run c = run-reaches
