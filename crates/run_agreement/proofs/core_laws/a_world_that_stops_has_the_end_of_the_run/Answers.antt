use Rattle.run_agreement.proofs.Agreeing.{run-ends}
use Rattle.run_agreement.proofs.core_laws.a_world_that_stops_has_the_end_of_the_run.Goals as goal

pub returns : goal.returns
returns c = run-ends
