use Rattle.checked_runs.proofs.Causes.{caused}
use Rattle.checked_runs.proofs.laws.an_outcome_has_its_cause.Goals as goal

pub returns : goal.returns
returns c = caused
