use Rattle.run_changes.proofs.LockHomes.{locks-led}
use Rattle.run_changes.proofs.laws.a_banks_locks_follow_its_changes.Goals as goal

pub returns : goal.returns
returns c = λ S e bank b k l machine may is found there. locks-led S e bank b machine may is found k there l
