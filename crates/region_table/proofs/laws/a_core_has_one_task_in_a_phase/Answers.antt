use Rattle.region_table.proofs.TaskLemmas.{declared-tells, declared-only}
use Rattle.region_table.proofs.laws.a_core_has_one_task_in_a_phase.Goals as goal

pub returns-clause-found : goal.returns-clause-found
returns-clause-found c = declared-tells

pub returns-clause-only : goal.returns-clause-only
returns-clause-only c = declared-only
