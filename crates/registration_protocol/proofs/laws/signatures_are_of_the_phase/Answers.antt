use Rattle.registration_protocol.proofs.SignLemmas.{signature-tag, store-signature}
use Rattle.registration_protocol.proofs.laws.signatures_are_of_the_phase.Goals as goal

pub returns-clause-tag : goal.returns-clause-tag
returns-clause-tag c = signature-tag

pub returns-clause-stored : goal.returns-clause-stored
returns-clause-stored c = store-signature
