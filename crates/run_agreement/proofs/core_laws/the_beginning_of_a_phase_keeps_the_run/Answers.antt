use Rattle.run_agreement.proofs.Beginning.{run-begin}
use Rattle.run_agreement.proofs.core_laws.the_beginning_of_a_phase_keeps_the_run.Goals as goal

pub returns : goal.returns
returns c = run-begin
