use Rattle.companion_laws.proofs.Agreeing.{run-verdict, run-said}
use Rattle.companion_laws.proofs.claim_laws.the_claim_of_any_run_agrees.Goals as goal

pub returns-clause-verdict : goal.returns-clause-verdict
returns-clause-verdict c = run-verdict

pub returns-clause-answer : goal.returns-clause-answer
returns-clause-answer c = run-said
