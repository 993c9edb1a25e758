use Rattle.run_agreement.proofs.CoreByCore.{agreed-same}
use Rattle.run_agreement.proofs.core_laws.what_changes_no_task_keeps_the_run.Goals as goal

pub returns : goal.returns
returns c = agreed-same
