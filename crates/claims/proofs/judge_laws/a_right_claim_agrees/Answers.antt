use Rattle.claims.proofs.Verdicts.{right_agrees}
use Rattle.claims.proofs.judge_laws.a_right_claim_agrees.Goals as goal

pub returns : goal.returns
returns c = right_agrees
