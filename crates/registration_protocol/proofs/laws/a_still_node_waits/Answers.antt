use Rattle.registration_protocol.proofs.StillLemmas.{still-waits}
use Rattle.registration_protocol.proofs.laws.a_still_node_waits.Goals as goal

pub returns : goal.returns
returns c = still-waits
