use Rattle.machine_rules.proofs.RunsCoherent.{well-coherent}
use Rattle.machine_rules.proofs.laws.every_run_leads_to_a_coherent_state.Goals as goal

pub returns : goal.returns
returns c = well-coherent
