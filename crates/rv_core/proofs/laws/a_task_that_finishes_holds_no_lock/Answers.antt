use Rattle.rv_core.proofs.Completions.{finished-holds_none}
use Rattle.rv_core.proofs.laws.a_task_that_finishes_holds_no_lock.Goals as goal

pub returns : goal.returns
returns c = finished-holds_none
