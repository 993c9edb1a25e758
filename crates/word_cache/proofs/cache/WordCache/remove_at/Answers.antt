use Rattle.word_cache.proofs.cache.WordCache.remove_at.Goals as goal

pub invariant_of-self : goal.invariant_of-self
invariant_of-self c = c.take_out.ensures.row c.self.inside.clock c.self.invariant
