use Rattle.run_changes.proofs.Applied.{entries-lead}
use Rattle.run_changes.proofs.laws.the_changes_of_a_core_lead_on.Goals as goal

pub returns : goal.returns
returns c = entries-lead
