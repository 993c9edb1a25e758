use Rattle.sentences.proofs.OperandLemmas.{operand-named}
use Rattle.sentences.proofs.laws.the_marked_operand_is_the_one_that_is_named.Goals as goal

pub returns : goal.returns
returns c = λ version bytes ts x word w form e is. operand-named version bytes x word w form is ts e
