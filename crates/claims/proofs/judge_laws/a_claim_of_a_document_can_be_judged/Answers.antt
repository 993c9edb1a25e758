use Rattle.claims.proofs.Verdicts.{judgeable}
use Rattle.claims.proofs.judge_laws.a_claim_of_a_document_can_be_judged.Goals as goal

pub returns : goal.returns
returns c = judgeable
