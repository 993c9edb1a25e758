use Rattle.explained_answer.proofs.PlacedLemmas.{placed, acquire-placed}
use Rattle.explained_answer.proofs.run_again.what_a_run_tells_of_unfinished_tasks_is_said.Goals as goal

pub returns-clause-place : goal.returns-clause-place
returns-clause-place c = placed

pub returns-clause-acquire : goal.returns-clause-acquire
returns-clause-acquire c = acquire-placed
