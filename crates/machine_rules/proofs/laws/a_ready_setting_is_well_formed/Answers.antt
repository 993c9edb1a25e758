use Rattle.machine_rules.proofs.AnySize.{well-formed}
use Rattle.machine_rules.proofs.laws.a_ready_setting_is_well_formed.Goals as goal

pub returns : goal.returns
returns c = well-formed
