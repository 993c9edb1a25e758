use Rattle.word_cache.proofs.ApartLemmas.{words_differ, sets_fit}
use Rattle.word_cache.proofs.cache.WordCache.pairs_are_apart.Goals as goal

pub returns : goal.returns
returns c =
    rw (← c.self.view_is)
    record {
      apart = words_differ c.self.inside.sets c.self.inside.ways c.self.inside.places c.self.invariant.row_is;
      within = λ w. sets_fit c.self.inside.sets c.self.inside.ways w c.self.inside.places c.self.invariant.row_is;
    }
