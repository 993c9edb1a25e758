use Rattle.queue_lock.proofs.LockLemmas.{IsLock-free, IsLock-acquired, IsLock-released}
use Rattle.queue_lock.proofs.laws.locks_stay_well_formed.Goals as goal

pub returns-clause-free : goal.returns-clause-free
returns-clause-free c = IsLock-free

pub returns-clause-acquired : goal.returns-clause-acquired
returns-clause-acquired c = IsLock-acquired

pub returns-clause-released : goal.returns-clause-released
returns-clause-released c = IsLock-released
