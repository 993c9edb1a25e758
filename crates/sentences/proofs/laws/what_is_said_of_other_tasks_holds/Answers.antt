use Rattle.sentences.specs.declared.others_use.Others.TheVariants.{Guarding, Contending, Reading, Nobody}
use Rattle.sentences.proofs.OthersLemmas.{others-are}
use Rattle.sentences.proofs.laws.what_is_said_of_other_tasks_holds.Goals as goal

pub returns-clause-guarding : goal.returns-clause-guarding
returns-clause-guarding c = λ a core tasks w g e. others-are a core tasks w (Guarding g) e

pub returns-clause-contending : goal.returns-clause-contending
returns-clause-contending c = λ a core tasks w other e. others-are a core tasks w (Contending other) e

pub returns-clause-reading : goal.returns-clause-reading
returns-clause-reading c = λ a core tasks w other e. (others-are a core tasks w (Reading other) e).0

pub returns-clause-nobody : goal.returns-clause-nobody
returns-clause-nobody c = λ a core tasks w e. (others-are a core tasks w Nobody e).0
