use Rattle.outcomes_top.proofs.PrintedLemmas.{run-printed}
use Rattle.outcomes_top.proofs.laws.every_complete_run_has_what_is_printed.Goals as goal

pub returns : goal.returns
returns c = run-printed
