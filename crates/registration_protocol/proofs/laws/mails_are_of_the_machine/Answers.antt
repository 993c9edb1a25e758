use Rattle.registration_protocol.proofs.NameLemmas.{instr-for, evict-for, arrive-for, gets-for}
use Rattle.registration_protocol.proofs.laws.mails_are_of_the_machine.Goals as goal

pub returns-clause-instr : goal.returns-clause-instr
returns-clause-instr c = instr-for

pub returns-clause-evict : goal.returns-clause-evict
returns-clause-evict c = evict-for

pub returns-clause-arrive : goal.returns-clause-arrive
returns-clause-arrive c = arrive-for

pub returns-clause-receive : goal.returns-clause-receive
returns-clause-receive c = gets-for
