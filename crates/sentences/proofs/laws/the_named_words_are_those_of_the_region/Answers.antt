use Rattle.sentences.proofs.WordsLemmas.{index-tested, interval-tested}
use Rattle.sentences.proofs.laws.the_named_words_are_those_of_the_region.Goals as goal

pub returns-clause-index : goal.returns-clause-index
returns-clause-index c = λ text bytes ts region index value x words p. index-tested text bytes ts region index value x words p

pub returns-clause-interval : goal.returns-clause-interval
returns-clause-interval c = λ text bytes ts u count x words p. interval-tested text bytes ts u count x words p
