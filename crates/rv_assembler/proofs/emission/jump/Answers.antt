use Rattle.std.proofs.Common.{rules}
use Rattle.rv_assembler.proofs.emission.jump.Goals as goal

pub encode-requires : goal.encode-requires
encode-requires c = search rules

pub overflow_cast-offset : goal.overflow_cast-offset
overflow_cast-offset c = search rules

pub returns-then-is_jump : goal.returns-then-is_jump
returns-then-is_jump c = search rules

pub returns-else-is_jump : goal.returns-else-is_jump
returns-else-is_jump c = search rules
