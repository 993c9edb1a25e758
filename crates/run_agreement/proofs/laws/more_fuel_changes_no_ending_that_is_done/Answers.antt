use Rattle.run_agreement.proofs.MoreFuel.{ending-same, loads-same}
use Rattle.run_agreement.proofs.laws.more_fuel_changes_no_ending_that_is_done.Goals as goal

pub returns-clause-ending : goal.returns-clause-ending
returns-clause-ending c = ending-same

pub returns-clause-loads : goal.returns-clause-loads
returns-clause-loads c = loads-same
