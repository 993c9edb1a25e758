use Rattle.queue_lock.proofs.LockLemmas.{popped}
use Rattle.queue_lock.proofs.lock.LockHome.hand_on.Goals as goal

pub invariant_of-self-2 : goal.invariant_of-self-2
invariant_of-self-2 c =
    rw (c.pop_front-self-inside.ensures.value, c.pop_front-self-inside.ensures.items)
    (popped (record { holder = c.self.inside.holder; queue = c.self.inside.queue.items; capacity = c.self.inside.queue.capacity; kept = c.self.inside.kept }) c.self.inside.kept c.self.invariant)
