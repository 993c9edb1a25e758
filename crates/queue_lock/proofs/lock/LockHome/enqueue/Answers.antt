use Rattle.std.proofs.Common.{◌≡◌, ◌≢◌, false, None, subst, sym}
use Rattle.queue_lock.specs.Lock.{Lock, waits}
use Rattle.queue_lock.proofs.LockLemmas.{tried}
use Rattle.queue_lock.proofs.lock.LockHome.enqueue.Goals as goal

pub invariant_of-self : goal.invariant_of-self
invariant_of-self c =
    let held = subst (λ (h : Lock). h.holder ≢ None) (sym c.self.view_is) c.requires in
    let absent : waits c.args.core.0 c.self.inside.queue.items ≡ false = cc in
    tried (record { holder = c.self.inside.holder; queue = c.self.inside.queue.items; capacity = c.self.inside.queue.capacity; kept = c.self.inside.kept })
    c.args.core c.try_push_back.new.self c.try_push_back.result c.self.invariant held absent c.try_push_back.ensures.variant c.try_push_back.ensures.ok c.try_push_back.ensures.err
