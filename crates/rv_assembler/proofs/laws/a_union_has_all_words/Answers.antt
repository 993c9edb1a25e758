use Rattle.rv_assembler.proofs.UnionLemmas.{united-has, united-apart}
use Rattle.rv_assembler.proofs.laws.a_union_has_all_words.Goals as goal

pub returns-clause-words : goal.returns-clause-words
returns-clause-words c = united-has

pub returns-clause-canonical : goal.returns-clause-canonical
returns-clause-canonical c = united-apart
