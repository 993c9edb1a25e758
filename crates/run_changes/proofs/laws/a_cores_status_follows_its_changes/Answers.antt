use Rattle.run_changes.proofs.Led.{followed}
use Rattle.run_changes.proofs.laws.a_cores_status_follows_its_changes.Goals as goal

pub returns : goal.returns
returns c = λ S e core n m machine may is found there. followed S e core n machine may is found m there
