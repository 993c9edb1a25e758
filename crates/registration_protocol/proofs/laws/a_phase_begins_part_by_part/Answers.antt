use Rattle.registration_protocol.proofs.MessageLemmas.{go-is, begin-entries, begin-task}
use Rattle.registration_protocol.proofs.SignLemmas.{begin-signature}
use Rattle.registration_protocol.proofs.laws.a_phase_begins_part_by_part.Goals as goal

pub returns-clause-row : goal.returns-clause-row
returns-clause-row c = go-is

pub returns-clause-entries : goal.returns-clause-entries
returns-clause-entries c = begin-entries

pub returns-clause-signatures : goal.returns-clause-signatures
returns-clause-signatures c = begin-signature

pub returns-clause-task : goal.returns-clause-task
returns-clause-task c = begin-task
