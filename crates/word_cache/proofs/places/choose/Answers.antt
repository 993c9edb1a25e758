use Rattle.std.proofs.Common.{None}
use Rattle.word_cache.specs.declared.row.Place.{Place}
use Rattle.word_cache.proofs.RowLemmas.{place_of_word, nowhere_else}
use Rattle.word_cache.proofs.CountLemmas.{some_spot}
use Rattle.word_cache.proofs.places.choose.Goals as goal

-- any place
some_place : Place
some_place = record { pair = None; used = 0 }

pub returns-in-Pair-clause-set : goal.returns-in-Pair-clause-set
returns-in-Pair-clause-set c =
    place_of_word c.args.sets c.args.ways c.args.word.0 c.in-Pair.place some_place c.args.row.now c.requires.row c.in-Pair.ensures.0 (c.in-Pair.ensures.1 some_place)

pub returns-in-Pair-clause-others : goal.returns-in-Pair-clause-others
returns-in-Pair-clause-others c =
    nowhere_else c.args.sets c.args.ways c.args.word.0 c.in-Pair.place some_place c.args.row.now c.requires.row c.in-Pair.ensures.0 (c.in-Pair.ensures.1 some_place)

pub unreachable-requires : goal.unreachable-requires
unreachable-requires c =
    some_spot c.args.sets c.args.ways c.args.word.0 c.args.row.now c.requires.row c.in-Nowhere.ensures.0 c.requires.room c.in-Nowhere.ensures.1
