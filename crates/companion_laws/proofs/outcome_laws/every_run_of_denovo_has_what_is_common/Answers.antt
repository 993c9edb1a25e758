use Rattle.companion_laws.proofs.CommonRuns.{run-common, flat-common, call-common}
use Rattle.companion_laws.proofs.outcome_laws.every_run_of_denovo_has_what_is_common.Goals as goal

pub returns-clause-run : goal.returns-clause-run
returns-clause-run c = run-common

pub returns-clause-call : goal.returns-clause-call
returns-clause-call c = call-common

pub returns-clause-flat : goal.returns-clause-flat
returns-clause-flat c = flat-common
