use Rattle.registration_protocol.proofs.InstrLemmas.{may-instruct, may-evict, may-arrive}
use Rattle.registration_protocol.proofs.laws.a_permission_tells_of_its_node.Goals as goal

pub returns-clause-instr : goal.returns-clause-instr
returns-clause-instr c = may-instruct

pub returns-clause-evict : goal.returns-clause-evict
returns-clause-evict c = may-evict

pub returns-clause-arrive : goal.returns-clause-arrive
returns-clause-arrive c = may-arrive
