use Rattle.std.proofs.Common.{refl}
use Rattle.word_cache.proofs.SweepLemmas.{row_after_phase, swept_phase}
use Rattle.word_cache.proofs.cache.WordCache.drop_written.Goals as goal

pub invariant_of-self : goal.invariant_of-self
invariant_of-self c =
    rw c.sweep_phase.ensures (row_after_phase c.args.words.now c.self.inside.sets c.self.inside.ways c.self.inside.clock c.self.inside.places c.self.invariant)

pub returns : goal.returns
returns c = rw (← c.self.view_is, c.sweep_phase.ensures, swept_phase c.args.words.now c.self.inside.places) refl
