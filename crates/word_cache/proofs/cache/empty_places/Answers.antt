use Rattle.std.proofs.Common.{ap, arith}
use Rattle.word_cache.specs.declared.row.Place.{Place}
use Rattle.word_cache.proofs.EditLemmas.{new_row_pairs}
use Rattle.word_cache.proofs.cache.empty_places.Goals as goal

pub returns-clause-pairs : goal.returns-clause-pairs
returns-clause-pairs c =
    new_row_pairs c.loop-before.places.items (λ i d below. c.loop-before.invariant.each i d (omega (arith, below, c.loop-before.invariant.long)))

pub returns-clause-free : goal.returns-clause-free
returns-clause-free c i d below =
    ap (λ (p : Place). p.pair) (c.loop-before.invariant.each i d (omega (arith, below, c.loop-before.invariant.long)))
