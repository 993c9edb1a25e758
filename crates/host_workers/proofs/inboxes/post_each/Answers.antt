use Rattle.std.proofs.Common.{◌++◌, map, sym, ap, ◌∙◌, subst, arith}
use Rattle.message_net.specs.Pool.{AreDistinct}
use Rattle.host_workers.specs.Rounds.{mail_in}
use Rattle.host_workers.proofs.Posting.{distinct-at}
use Rattle.host_workers.proofs.inboxes.post_each.Goals as goal

pub post_all-requires-clause-distinct : goal.post_all-requires-clause-distinct
post_all-requires-clause-distinct c =
    subst AreDistinct (ap (λ l. c.loop-inbox.pool.mails ++ map mail_in l) (ap (λ v. v.items) (sym c.inbox-item.is) ∙ sym c.as_slice.ensures.value)) (distinct-at (λ v. v.items) c.loop-inbox.pool.mails _ c.args.inboxes.now c.loop-inbox.inbox-index c.inbox-item.result (omega arith) c.loop-inbox.invariant c.requires.distinct)
