use Rattle.machine_rules.proofs.Sequential.{well-race_free}
use Rattle.machine_rules.proofs.laws.no_run_has_a_data_race.Goals as goal

pub returns : goal.returns
returns c = well-race_free
