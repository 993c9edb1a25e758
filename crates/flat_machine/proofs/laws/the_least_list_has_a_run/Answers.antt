use Rattle.std.proofs.Common.{Some}
use Rattle.flat_machine.specs.Phases.{initial_flat}
use Rattle.flat_machine.proofs.LeastLaws.{least-exists}
use Rattle.flat_machine.proofs.RunLemmas.{least-has_run, least-one}
use Rattle.flat_machine.proofs.laws.the_least_list_has_a_run.Goals as goal

pub returns-clause-list : goal.returns-clause-list
returns-clause-list c = least-exists

pub returns-clause-run : goal.returns-clause-run
returns-clause-run c = least-has_run

pub returns-clause-one : goal.returns-clause-one
returns-clause-one c = λ P fuel gs hs h k. least-one P fuel (Some (initial_flat P fuel)) gs hs h k
