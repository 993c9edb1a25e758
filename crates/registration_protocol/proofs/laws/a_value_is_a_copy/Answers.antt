use Rattle.registration_protocol.proofs.EntryLemmas.{gets-data}
use Rattle.registration_protocol.proofs.laws.a_value_is_a_copy.Goals as goal

pub returns : goal.returns
returns c = gets-data
