use Rattle.sentences.proofs.RangeLemmas.{range-tested}
use Rattle.sentences.proofs.laws.a_named_range_is_the_tested_one.Goals as goal

pub returns : goal.returns
returns c = λ text names here k ts x low high n. range-tested text names here k ts x low high n
