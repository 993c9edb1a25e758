use Rattle.flat_machine.proofs.CauseLemmas.{run-held_up, run-past, run-stuck, run-waiter}
use Rattle.flat_machine.proofs.laws.a_task_that_waits_wants_a_held_lock.Goals as goal

pub returns-clause-waits : goal.returns-clause-waits
returns-clause-waits c = run-held_up

pub returns-clause-past : goal.returns-clause-past
returns-clause-past c = run-past

pub returns-clause-stuck : goal.returns-clause-stuck
returns-clause-stuck c = run-stuck

pub returns-clause-waiter : goal.returns-clause-waiter
returns-clause-waiter c = run-waiter
