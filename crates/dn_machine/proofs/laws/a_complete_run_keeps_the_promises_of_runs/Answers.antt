use Rattle.dn_machine.proofs.RunLemmas.{complete-run-of}
use Rattle.dn_machine.proofs.laws.a_complete_run_keeps_the_promises_of_runs.Goals as goal

pub returns : goal.returns
returns c = complete-run-of
