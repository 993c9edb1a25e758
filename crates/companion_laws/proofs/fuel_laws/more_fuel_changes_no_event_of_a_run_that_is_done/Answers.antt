use Rattle.companion_laws.proofs.FuelRuns.{more-fuel, denovo-told}
use Rattle.companion_laws.proofs.fuel_laws.more_fuel_changes_no_event_of_a_run_that_is_done.Goals as goal

pub returns-clause-run : goal.returns-clause-run
returns-clause-run c = more-fuel

pub returns-clause-denovo : goal.returns-clause-denovo
returns-clause-denovo c = denovo-told
