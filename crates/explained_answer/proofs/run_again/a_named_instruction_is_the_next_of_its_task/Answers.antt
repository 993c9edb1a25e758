use Rattle.explained_answer.proofs.RunAgainLemmas.{named-next}
use Rattle.explained_answer.proofs.run_again.a_named_instruction_is_the_next_of_its_task.Goals as goal

pub returns : goal.returns
returns c = named-next
