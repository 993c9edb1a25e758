use Rattle.queue_lock.proofs.RowLemmas.{IsLockOf-free, IsLockOf-acquired, IsLockOf-released}
use Rattle.queue_lock.proofs.laws.locks_stay_the_machines.Goals as goal

pub returns-clause-free : goal.returns-clause-free
returns-clause-free c = IsLockOf-free

pub returns-clause-acquired : goal.returns-clause-acquired
returns-clause-acquired c = IsLockOf-acquired

pub returns-clause-released : goal.returns-clause-released
returns-clause-released c = IsLockOf-released
