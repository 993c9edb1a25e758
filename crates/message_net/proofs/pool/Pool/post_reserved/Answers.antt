use Rattle.std.proofs.Common.{◌≡◌, ◌<◌, length, subst, sym}
use Rattle.message_net.specs.Pool.{Mails, count_of}
use Rattle.message_net.proofs.PoolLemmas.{IsPool-posted}
use Rattle.message_net.proofs.pool.Pool.post_reserved.Goals as goal

pub invariant_of-self : goal.invariant_of-self
invariant_of-self c =
    let new = subst (λ (v : Mails). count_of c.args.mail.id v.mails ≡ 0) (sym c.self.view_is) c.requires.new in
    let room = subst (λ (v : Mails). length v.mails < 4294967295) (sym c.self.view_is) c.requires.room in
    rw c.push_reserved.ensures.items (IsPool-posted c.self.inside.row.items c.args.mail c.self.invariant new room)
