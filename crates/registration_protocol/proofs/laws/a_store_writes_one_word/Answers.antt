use Rattle.registration_protocol.proofs.InstrLemmas.{written-is}
use Rattle.registration_protocol.proofs.laws.a_store_writes_one_word.Goals as goal

pub returns : goal.returns
returns c = written-is
