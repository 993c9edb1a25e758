use Rattle.host_workers.proofs.NeverSpent.{never-spent}
use Rattle.host_workers.proofs.laws.no_object_is_spent.Goals as goal

pub returns : goal.returns
returns c = never-spent
