use Rattle.run_changes.proofs.Start.{start-leads}
use Rattle.run_changes.proofs.laws.what_is_different_leads_there.Goals as goal

pub returns : goal.returns
returns c = start-leads
