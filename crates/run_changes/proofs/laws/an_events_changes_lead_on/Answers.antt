use Rattle.run_changes.proofs.Whole.{event-leads}
use Rattle.run_changes.proofs.laws.an_events_changes_lead_on.Goals as goal

pub returns : goal.returns
returns c = event-leads
