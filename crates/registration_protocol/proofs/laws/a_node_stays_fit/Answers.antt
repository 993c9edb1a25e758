use Rattle.registration_protocol.proofs.FitLemmas.{opened-fits, instr-fits, evict-fits, arrive-fits, gets-fits}
use Rattle.registration_protocol.proofs.laws.a_node_stays_fit.Goals as goal

pub returns-clause-initial : goal.returns-clause-initial
returns-clause-initial c = opened-fits

pub returns-clause-instr : goal.returns-clause-instr
returns-clause-instr c = instr-fits

pub returns-clause-evict : goal.returns-clause-evict
returns-clause-evict c = evict-fits

pub returns-clause-arrive : goal.returns-clause-arrive
returns-clause-arrive c = arrive-fits

pub returns-clause-receive : goal.returns-clause-receive
returns-clause-receive c = gets-fits
