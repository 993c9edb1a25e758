use Rattle.explained_answer.proofs.AcquireLemmas.{named-acquire}
use Rattle.explained_answer.proofs.acquires.a_named_acquire_is_the_last_of_its_lock.Goals as goal

pub returns : goal.returns
returns c = named-acquire
