use Rattle.std.proofs.Common.{◌≡◌, ◌++◌, map, drop}
use Rattle.host_workers.specs.Inboxes.{all_mails_in}
use Rattle.host_workers.proofs.inboxes.post_each.Given as goal

abbrev pub invariant-loop-inbox : goal.invariant-loop-inbox
invariant-loop-inbox l =
    l.pool.mails ++ all_mails_in (map (λ v. v.items) (drop l.inbox-index l.inboxes)) ≡ l.fn.pool.mails ++ all_mails_in (map (λ v. v.items) l.inboxes)
