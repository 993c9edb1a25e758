use Rattle.flat_machine.proofs.CauseLemmas.{run-spent, run-out_of_fuel}
use Rattle.flat_machine.proofs.laws.a_task_out_of_fuel_has_used_it_up.Goals as goal

pub returns-clause-task : goal.returns-clause-task
returns-clause-task c = run-spent

pub returns-clause-run : goal.returns-clause-run
returns-clause-run c = run-out_of_fuel
