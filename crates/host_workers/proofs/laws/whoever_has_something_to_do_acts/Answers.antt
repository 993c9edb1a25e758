use Rattle.host_workers.proofs.Beginning.{all-acted}
use Rattle.host_workers.proofs.laws.whoever_has_something_to_do_acts.Goals as goal

pub returns : goal.returns
returns c = all-acted
