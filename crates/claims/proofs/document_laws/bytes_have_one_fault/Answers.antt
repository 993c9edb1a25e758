use Rattle.claims.proofs.Single.{one-fault, claim-fault}
use Rattle.claims.proofs.document_laws.bytes_have_one_fault.Goals as goal

pub returns-clause-one : goal.returns-clause-one
returns-clause-one c = one-fault

pub returns-clause-none : goal.returns-clause-none
returns-clause-none c = claim-fault
