use Rattle.sentences.proofs.PartLemmas.{marked-lies}
use Rattle.sentences.proofs.laws.the_marked_part_lies_in_its_line.Goals as goal

pub returns : goal.returns
returns c = λ text bytes fault x e. marked-lies text bytes fault x e
