use Rattle.claims.proofs.Verdicts.{some_verdict, one_verdict}
use Rattle.claims.proofs.judge_laws.a_claim_has_one_verdict.Goals as goal

pub returns-clause-some : goal.returns-clause-some
returns-clause-some c = some_verdict

pub returns-clause-one : goal.returns-clause-one
returns-clause-one c = one_verdict
