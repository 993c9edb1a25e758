use Rattle.queue_lock.proofs.LockLemmas.{room}
use Rattle.queue_lock.proofs.RowLemmas.{room-of}
use Rattle.queue_lock.proofs.laws.a_queue_without_a_core_has_room.Goals as goal

pub returns-clause-queue : goal.returns-clause-queue
returns-clause-queue c = room

pub returns-clause-lock : goal.returns-clause-lock
returns-clause-lock c = room-of
