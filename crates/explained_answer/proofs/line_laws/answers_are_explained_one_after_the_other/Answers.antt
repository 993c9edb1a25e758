use Rattle.std.proofs.Common.{ap}
use Rattle.explained_answer.specs.Lines.{answers_and_sentences}
use Rattle.explained_answer.proofs.SeveralLemmas.{answers-joined, few-explained}
use Rattle.explained_answer.proofs.line_laws.answers_are_explained_one_after_the_other.Goals as goal

pub returns-clause-each : goal.returns-clause-each
returns-clause-each c = λ text l answers all. ap (answers_and_sentences text l) (answers-joined answers all)

pub returns-clause-alone : goal.returns-clause-alone
returns-clause-alone c = few-explained
