use Rattle.queue_lock.proofs.RowLemmas.{released-other}
use Rattle.queue_lock.proofs.laws.a_release_of_another_changes_nothing.Goals as goal

pub returns : goal.returns
returns c = released-other
