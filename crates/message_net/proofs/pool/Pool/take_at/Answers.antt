use Rattle.message_net.proofs.PoolLemmas.{IsPool-without}
use Rattle.message_net.proofs.pool.Pool.take_at.Goals as goal

pub invariant_of-self : goal.invariant_of-self
invariant_of-self c =
    rw c.take_out.ensures.rest (IsPool-without c.self.inside.row.items c.args.place c.self.invariant)
