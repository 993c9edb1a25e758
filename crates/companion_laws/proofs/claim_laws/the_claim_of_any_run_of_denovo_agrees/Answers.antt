use Rattle.companion_laws.proofs.HandedBack.{record-verdict, call-verdict, call-said, call-claim, call-printed}
use Rattle.companion_laws.proofs.claim_laws.the_claim_of_any_run_of_denovo_agrees.Goals as goal

pub returns-clause-run : goal.returns-clause-run
returns-clause-run c = record-verdict

pub returns-clause-verdict : goal.returns-clause-verdict
returns-clause-verdict c = call-verdict

pub returns-clause-answer : goal.returns-clause-answer
returns-clause-answer c = call-said

pub returns-clause-claimed : goal.returns-clause-claimed
returns-clause-claimed c = call-claim

pub returns-clause-printed : goal.returns-clause-printed
returns-clause-printed c = call-printed
