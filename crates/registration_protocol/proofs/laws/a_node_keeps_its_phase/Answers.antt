use Rattle.registration_protocol.proofs.PhaseLemmas.{instr-phase, evict-keeps, gets-phase}
use Rattle.registration_protocol.proofs.laws.a_node_keeps_its_phase.Goals as goal

pub returns-clause-instr : goal.returns-clause-instr
returns-clause-instr c = instr-phase

pub returns-clause-evict : goal.returns-clause-evict
returns-clause-evict c = λ C n word. (evict-keeps C n word).phase_kept

pub returns-clause-receive : goal.returns-clause-receive
returns-clause-receive c = gets-phase
