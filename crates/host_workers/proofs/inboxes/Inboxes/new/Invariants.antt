use Rattle.std.proofs.Common.{take}
use Rattle.host_workers.specs.Inboxes.{inboxes_of, AreFirstInboxes}
use Rattle.host_workers.proofs.inboxes.Inboxes.new.Given as goal

abbrev pub invariant-loop-place : goal.invariant-loop-place
invariant-loop-place l = AreFirstInboxes l.fn.shape (take l.place l.pool.mails) (inboxes_of l.inboxes)
