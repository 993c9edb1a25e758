use Rattle.word_cache.proofs.RowLemmas.{has-none}
use Rattle.word_cache.proofs.places.choose_free.Goals as goal

pub returns-in-Some-clause-others : goal.returns-in-Some-clause-others
returns-in-Some-clause-others c j d below other =
    has-none c.args.sets c.args.ways c.args.word.0 c.args.row.now c.requires.row c.requires.none j d below
