use Rattle.flat_machine.proofs.ReachedLaws.{reached-order, grant-legal}
use Rattle.flat_machine.proofs.laws.a_task_can_take_the_free_lock_that_it_wants.Goals as goal

pub returns : goal.returns
returns c = λ P fuel gs F i r lock order reached there wants free. grant-legal P fuel F i r lock (reached-order P fuel gs F order reached) there wants free
