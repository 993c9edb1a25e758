use Rattle.std.proofs.Common.{◌≡◌, take, subst, arith}
use Rattle.std.proofs.lemmas.List.{take_all}
use Rattle.host_workers.specs.Inboxes.{inboxes_of, AreFirstInboxes}
use Rattle.host_workers.proofs.Put.{first-next}
use Rattle.host_workers.proofs.inboxes.Inboxes.new.Goals as goal

pub loop-place-preserved : goal.loop-place-preserved
loop-place-preserved c =
    first-next c.args.shape c.args.pool.now.mails c.loop-place.place c.at.result (inboxes_of c.loop-place.inboxes) (inboxes_of c.put.new.self) c.at.ensures c.in_ok-put.ensures c.loop-place.invariant

pub returns : goal.returns
returns c =
    let mails = c.args.pool.now.mails in
    let all : take c.loop-place.place mails ≡ mails = take_all c.loop-place.place mails (omega arith) in
    subst (λ ms. AreFirstInboxes c.args.shape ms (inboxes_of c.loop-place.inboxes)) all c.loop-place.invariant
