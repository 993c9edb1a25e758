use Rattle.registration_protocol.proofs.InstrLemmas.{instructed-is, instr-parts, instr-retires}
use Rattle.registration_protocol.proofs.laws.an_instruction_part_by_part.Goals as goal

pub returns-clause-row : goal.returns-clause-row
returns-clause-row c = instructed-is

pub returns-clause-parts : goal.returns-clause-parts
returns-clause-parts c = instr-parts

pub returns-clause-task : goal.returns-clause-task
returns-clause-task c = instr-retires
