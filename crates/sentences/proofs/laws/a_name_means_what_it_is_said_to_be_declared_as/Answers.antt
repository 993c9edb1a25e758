use Rattle.sentences.proofs.NameLemmas.{not-meant, meant-as}
use Rattle.sentences.proofs.laws.a_name_means_what_it_is_said_to_be_declared_as.Goals as goal

pub returns-clause-undeclared : goal.returns-clause-undeclared
returns-clause-undeclared c = λ text name e. not-meant text name e

pub returns-clause-declared : goal.returns-clause-declared
returns-clause-declared c = λ text name k e. meant-as text name k e
