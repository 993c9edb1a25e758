use Rattle.run_agreement.proofs.Poised.{stops-at, to-locks}
use Rattle.run_agreement.proofs.reached_laws.only_locks_and_the_barrier_hold_a_core_up.Goals as goal

pub returns-clause-stops : goal.returns-clause-stops
returns-clause-stops c = stops-at

pub returns-clause-goes_on : goal.returns-clause-goes_on
returns-clause-goes_on c = to-locks
