use Rattle.flat_machine.proofs.AcquireLaws.{acquired-there}
use Rattle.flat_machine.proofs.acquires.a_lock_is_acquired_where_its_task_waits.Goals as goal

pub returns : goal.returns
returns c = acquired-there
