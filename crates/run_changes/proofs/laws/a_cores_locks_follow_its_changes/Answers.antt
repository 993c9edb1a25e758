use Rattle.run_changes.proofs.Led.{held-led, signs-led}
use Rattle.run_changes.proofs.laws.a_cores_locks_follow_its_changes.Goals as goal

pub returns-clause-held : goal.returns-clause-held
returns-clause-held c = λ S e core n m l machine may is found there. held-led S e core n machine may is found m there l

pub returns-clause-signatures : goal.returns-clause-signatures
returns-clause-signatures c = λ S e core n m l machine may is found there. signs-led S e core n machine may is found m there l
