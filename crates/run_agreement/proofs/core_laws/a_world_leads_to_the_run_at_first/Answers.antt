use Rattle.run_agreement.proofs.Beginning.{run-opens}
use Rattle.run_agreement.proofs.core_laws.a_world_leads_to_the_run_at_first.Goals as goal

pub returns : goal.returns
returns c = run-opens
