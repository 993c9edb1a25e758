use Rattle.explained_answer.proofs.CauseLemmas.{trapped-by, stuck-by}
use Rattle.explained_answer.proofs.cause_laws.a_cause_has_a_line_that_says_so.Goals as goal

pub returns-clause-trapped : goal.returns-clause-trapped
returns-clause-trapped c = trapped-by

pub returns-clause-stuck : goal.returns-clause-stuck
returns-clause-stuck c = stuck-by
