use Rattle.run_changes.proofs.Led.{led}
use Rattle.run_changes.proofs.laws.a_cores_entries_follow_its_changes.Goals as goal

pub returns : goal.returns
returns c = λ S e core n m w machine may is found there. led S e core n machine may is found m there w
