use Rattle.machine_rules.proofs.Sequential.{order-excluded}
use Rattle.machine_rules.proofs.laws.a_lock_has_one_holder_at_a_time.Goals as goal

pub returns : goal.returns
returns c = order-excluded
