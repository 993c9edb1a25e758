use Rattle.queue_lock.proofs.LockLemmas.{waits-stands}
use Rattle.queue_lock.proofs.laws.who_waits_stands_in_the_queue.Goals as goal

pub returns : goal.returns
returns c = waits-stands
