use Rattle.sentences.proofs.ClaimLemmas.{claims-words}
use Rattle.sentences.proofs.laws.an_effect_gives_the_words_that_it_claims.Goals as goal

pub returns : goal.returns
returns c = λ phase family u p e part index. claims-words phase family u p e part index
