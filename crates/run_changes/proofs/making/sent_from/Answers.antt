use Rattle.std.proofs.Common.{◌+◌, [], ◌∷◌, drop, map, ap}
use Rattle.run_changes.specs.Events.{outgoing_of}
use Rattle.run_changes.proofs.Listed.{goes_on, drop_there}
use Rattle.run_changes.proofs.making.sent_from.Goals as goal

pub loop-place-preserved : goal.loop-place-preserved
loop-place-preserved c =
    let mails = c.args.pool.now.mails in
    goes_on c.loop-place.sent c.push.new.self (outgoing_of c.at-mail.result ∷ []) (map outgoing_of (drop c.loop-place.place mails)) (map outgoing_of (drop (c.loop-place.place + 1) mails))
    (map outgoing_of (drop c.args.left mails)) c.in_ok-push.ensures.ok (ap (map outgoing_of) (drop_there mails c.loop-place.place c.at-mail.result c.at-mail.ensures)) c.loop-place.invariant
