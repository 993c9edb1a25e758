use Rattle.explained_answer.proofs.CauseLemmas.{holder-ended}
use Rattle.explained_answer.proofs.cause_laws.an_ended_holder_has_a_line_that_says_so.Goals as goal

pub returns : goal.returns
returns c = holder-ended
