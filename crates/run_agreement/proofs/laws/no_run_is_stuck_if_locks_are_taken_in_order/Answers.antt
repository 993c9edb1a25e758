use Rattle.run_agreement.proofs.Ordered.{ordered-waits, ordered-unstuck}
use Rattle.run_agreement.proofs.laws.no_run_is_stuck_if_locks_are_taken_in_order.Goals as goal

pub returns-clause-waits : goal.returns-clause-waits
returns-clause-waits c = ordered-waits

pub returns-clause-stuck : goal.returns-clause-stuck
returns-clause-stuck c = ordered-unstuck
