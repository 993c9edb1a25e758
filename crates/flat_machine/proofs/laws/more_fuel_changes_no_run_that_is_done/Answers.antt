use Rattle.flat_machine.proofs.MoreFuel.{done-same, unspent-same}
use Rattle.flat_machine.proofs.laws.more_fuel_changes_no_run_that_is_done.Goals as goal

pub returns-clause-done : goal.returns-clause-done
returns-clause-done c = done-same

pub returns-clause-unspent : goal.returns-clause-unspent
returns-clause-unspent c = unspent-same
