use Rattle.run_agreement.proofs.Agreeing.{run-later, run-fronts}
use Rattle.run_agreement.proofs.core_laws.the_loads_of_a_task_are_a_front_of_its_loads_in_the_run.Goals as goal

pub returns-clause-value : goal.returns-clause-value
returns-clause-value c = λ P fuel gs W h. h.run

pub returns-clause-later : goal.returns-clause-later
returns-clause-later c = run-later

pub returns-clause-fronts : goal.returns-clause-fronts
returns-clause-fronts c = run-fronts
