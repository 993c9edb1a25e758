use Rattle.message_net.proofs.pool.Pool.count.Goals as goal

pub returns-clause-distinct : goal.returns-clause-distinct
returns-clause-distinct c = rw (← c.self.view_is) c.self.invariant.distinct
