use Rattle.machine_rules.proofs.Served.{well-turn}
use Rattle.machine_rules.proofs.laws.a_core_waits_for_those_before_it.Goals as goal

pub returns : goal.returns
returns c = well-turn
