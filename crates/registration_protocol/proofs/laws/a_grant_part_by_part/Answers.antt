use Rattle.registration_protocol.proofs.MessageLemmas.{grant-is, grant-entries}
use Rattle.registration_protocol.proofs.SignLemmas.{grant-signature}
use Rattle.registration_protocol.proofs.InstrLemmas.{grant-acquires}
use Rattle.registration_protocol.proofs.laws.a_grant_part_by_part.Goals as goal

pub returns-clause-row : goal.returns-clause-row
returns-clause-row c = grant-is

pub returns-clause-entries : goal.returns-clause-entries
returns-clause-entries c = grant-entries

pub returns-clause-signatures : goal.returns-clause-signatures
returns-clause-signatures c = grant-signature

pub returns-clause-task : goal.returns-clause-task
returns-clause-task c = grant-acquires
