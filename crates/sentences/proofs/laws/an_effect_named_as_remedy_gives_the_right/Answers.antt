use Rattle.sentences.specs.declared.others_use.Others.TheVariants.{Reading, Nobody}
use Rattle.sentences.proofs.CauseLemmas.{plain-right, guarded-right}
use Rattle.sentences.proofs.OthersLemmas.{others-are}
use Rattle.sentences.proofs.laws.an_effect_named_as_remedy_gives_the_right.Goals as goal

pub returns-clause-plain : goal.returns-clause-plain
returns-clause-plain c = λ a d held w. plain-right a d held w

pub returns-clause-apart_from_readers : goal.returns-clause-apart_from_readers
returns-clause-apart_from_readers c = λ a core tasks w other e. (others-are a core tasks w (Reading other) e).1

pub returns-clause-apart_from_all : goal.returns-clause-apart_from_all
returns-clause-apart_from_all c = λ a core tasks w e. (others-are a core tasks w Nobody e).1

pub returns-clause-guarded : goal.returns-clause-guarded
returns-clause-guarded c = λ a d held lock w. guarded-right a d held lock w
