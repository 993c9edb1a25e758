use Rattle.registration_protocol.proofs.EntryLemmas.{store-entry}
use Rattle.registration_protocol.proofs.laws.a_store_writes_one_entry.Goals as goal

pub returns : goal.returns
returns c = store-entry
