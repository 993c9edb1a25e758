use Rattle.flat_machine.proofs.CauseLemmas.{run-ended, whole-ends}
use Rattle.flat_machine.proofs.laws.the_end_of_a_run_shows_its_last_state.Goals as goal

pub returns-clause-shows : goal.returns-clause-shows
returns-clause-shows c = run-ended

pub returns-clause-whole : goal.returns-clause-whole
returns-clause-whole c = whole-ends
