use Rattle.word_cache.proofs.cache.WordCache.drop_signed.Goals as goal

pub invariant_of-self : goal.invariant_of-self
invariant_of-self c = c.drop_stale.ensures.row c.self.inside.clock c.self.invariant
