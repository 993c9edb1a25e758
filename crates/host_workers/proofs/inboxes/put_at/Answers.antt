use Rattle.std.proofs.Common.{arith}
use Rattle.host_workers.proofs.Put.{put-place}
use Rattle.host_workers.proofs.inboxes.put_at.Goals as goal

pub returns-in_ok-push : goal.returns-in_ok-push
returns-in_ok-push c =
    put-place (λ v. v.items) c.args.inboxes.now.items c.args.place c.index_mut.result.now c.push.new.self c.args.posted (omega (arith, c.if-place-len.true, c.len.ensures, c.args.inboxes.now.ok.0)) c.index_mut.ensures.value c.in_ok-push.ensures.items
