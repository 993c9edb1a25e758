use Rattle.claims.proofs.Single.{one-claim}
use Rattle.claims.proofs.document_laws.a_document_is_of_one_claim.Goals as goal

pub returns : goal.returns
returns c = one-claim
