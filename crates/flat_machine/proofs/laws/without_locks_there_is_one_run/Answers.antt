use Rattle.flat_machine.proofs.RunLemmas.{alone-runs, alone-only}
use Rattle.flat_machine.proofs.laws.without_locks_there_is_one_run.Goals as goal

pub returns-clause-run : goal.returns-clause-run
returns-clause-run c = alone-runs

pub returns-clause-only : goal.returns-clause-only
returns-clause-only c = alone-only
