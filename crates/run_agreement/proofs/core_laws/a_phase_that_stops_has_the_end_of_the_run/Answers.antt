use Rattle.run_agreement.proofs.CoreByCore.{agreed-ends, none-ends}
use Rattle.run_agreement.proofs.core_laws.a_phase_that_stops_has_the_end_of_the_run.Goals as goal

pub returns-clause-stops : goal.returns-clause-stops
returns-clause-stops c = agreed-ends

pub returns-clause-none : goal.returns-clause-none
returns-clause-none c = none-ends
