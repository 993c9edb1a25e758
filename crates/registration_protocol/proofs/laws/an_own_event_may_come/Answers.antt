use Rattle.registration_protocol.proofs.OwnLemmas.{own-comes}
use Rattle.registration_protocol.proofs.laws.an_own_event_may_come.Goals as goal

pub returns : goal.returns
returns c = own-comes
