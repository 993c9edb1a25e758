use Rattle.std.proofs.Common.{◌≡◌, ◌++◌, map, drop}
use Rattle.host_workers.specs.Rounds.{mail_in}
use Rattle.host_workers.proofs.inboxes.post_all.Given as goal

abbrev pub invariant-loop-posted : goal.invariant-loop-posted
invariant-loop-posted l =
    l.pool.mails ++ map mail_in (drop l.posted-index l.inbox) ≡ l.fn.pool.mails ++ map mail_in l.inbox
