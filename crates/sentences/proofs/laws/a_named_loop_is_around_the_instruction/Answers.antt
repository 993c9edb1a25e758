use Rattle.sentences.proofs.LoopLemmas.{around}
use Rattle.sentences.proofs.laws.a_named_loop_is_around_the_instruction.Goals as goal

pub returns : goal.returns
returns c = λ code pc l e. around pc l code 4096 e
