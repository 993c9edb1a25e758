use Rattle.run_changes.proofs.Whole.{start-and-run}
use Rattle.run_changes.proofs.laws.the_changes_of_a_run_lead_on.Goals as goal

pub returns : goal.returns
returns c = start-and-run
