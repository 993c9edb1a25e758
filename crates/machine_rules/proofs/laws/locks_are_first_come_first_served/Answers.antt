use Rattle.machine_rules.proofs.Served.{well-served}
use Rattle.machine_rules.proofs.laws.locks_are_first_come_first_served.Goals as goal

pub returns : goal.returns
returns c = well-served
