use Rattle.machine_rules.proofs.RunsCoherent.{well-rests}
use Rattle.machine_rules.proofs.laws.a_complete_run_is_at_rest.Goals as goal

pub returns : goal.returns
returns c = well-rests
