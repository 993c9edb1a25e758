use Rattle.std.proofs.Common.{rules}
use Rattle.rv_assembler.proofs.emission.immediate.Goals as goal

pub encode-requires : goal.encode-requires
encode-requires c = search rules

pub overflow_cast-imm : goal.overflow_cast-imm
overflow_cast-imm c = search rules

pub returns-then-is_operand : goal.returns-then-is_operand
returns-then-is_operand c = search rules

pub returns-else-is_operand : goal.returns-else-is_operand
returns-else-is_operand c = search rules
