use Rattle.registration_protocol.proofs.MessageLemmas.{ack-kept, forward-kept, back-kept}
use Rattle.registration_protocol.proofs.PhaseLemmas.{evict-keeps}
use Rattle.registration_protocol.proofs.laws.the_task_stays.Goals as goal

pub returns-clause-ack : goal.returns-clause-ack
returns-clause-ack c = ack-kept

pub returns-clause-forward : goal.returns-clause-forward
returns-clause-forward c = forward-kept

pub returns-clause-back : goal.returns-clause-back
returns-clause-back c = back-kept

pub returns-clause-evict : goal.returns-clause-evict
returns-clause-evict c = evict-keeps
