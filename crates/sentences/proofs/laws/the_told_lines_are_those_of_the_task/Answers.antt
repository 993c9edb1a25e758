use Rattle.std.proofs.Common.{Option, IfSome, sym, subst}
use Rattle.std.specs.List.{IsAmong}
use Rattle.text_places.specs.declared.places.TaskPlace.{TaskPlace}
use Rattle.text_places.specs.Places.{text_places}
use Rattle.sentences.proofs.EffectLemmas.{bounds-words, told-claims, claims-told}
use Rattle.sentences.proofs.TableClaims.{claimed-on}
use Rattle.sentences.proofs.laws.the_told_lines_are_those_of_the_task.Goals as goal

pub returns-clause-words : goal.returns-clause-words
returns-clause-words c = λ e part len index. bounds-words e part len index

pub returns-clause-told : goal.returns-clause-told
returns-clause-told c = λ text program t contender word x is known one place told has so.
    claimed-on text program is contender word place
    (subst (λ (o : Option TaskPlace). IfSome o (IsAmong (text_places text).tasks)) (sym one) known) x.line (told-claims text program t contender one x told has so)

pub returns-clause-all : goal.returns-clause-all
returns-clause-all c = λ text program t contender line one among. claims-told text program t contender one line among
