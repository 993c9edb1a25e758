use Rattle.common_outcomes.proofs.EveryRun.{every-run, no-stuck_run}
use Rattle.common_outcomes.proofs.laws.every_complete_run_has_what_is_common.Goals as goal

pub returns-clause-common : goal.returns-clause-common
returns-clause-common c = every-run

pub returns-clause-goes_on : goal.returns-clause-goes_on
returns-clause-goes_on c = no-stuck_run
