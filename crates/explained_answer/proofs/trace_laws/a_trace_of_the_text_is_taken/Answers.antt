use Rattle.explained_answer.proofs.Heads.{trace-taken}
use Rattle.explained_answer.proofs.trace_laws.a_trace_of_the_text_is_taken.Goals as goal

pub returns : goal.returns
returns c = trace-taken
