use Rattle.std.proofs.Common.{arith}
use Rattle.host_workers.proofs.Posting.{new-at}
use Rattle.host_workers.proofs.inboxes.post_all.Goals as goal

pub post-requires-clause-new : goal.post-requires-clause-new
post-requires-clause-new c =
    new-at c.loop-posted.pool.mails _ c.args.inbox.now c.loop-posted.posted-index _ (omega arith) c.loop-posted.invariant c.requires.distinct
