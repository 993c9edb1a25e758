use Rattle.run_changes.proofs.Led.{tasked}
use Rattle.run_changes.proofs.laws.a_cores_task_follows_its_changes.Goals as goal

pub returns : goal.returns
returns c = λ S e core n m t u machine may is found there stays has leaves. tasked S e core n machine may is found m there t u stays has leaves
