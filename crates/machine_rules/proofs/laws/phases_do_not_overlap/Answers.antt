use Rattle.machine_rules.proofs.Sequential.{order-apart}
use Rattle.machine_rules.proofs.laws.phases_do_not_overlap.Goals as goal

pub returns : goal.returns
returns c = order-apart
