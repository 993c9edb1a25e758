use Rattle.flat_machine.proofs.ReachedLaws.{reached-tasks, reached-order}
use Rattle.flat_machine.proofs.laws.the_tasks_of_a_run_are_its_phases.Goals as goal

pub returns-clause-tasks : goal.returns-clause-tasks
returns-clause-tasks c = reached-tasks

pub returns-clause-rising : goal.returns-clause-rising
returns-clause-rising c = reached-order
