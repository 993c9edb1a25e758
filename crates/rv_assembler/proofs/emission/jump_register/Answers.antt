use Rattle.std.proofs.Common.{rules}
use Rattle.rv_assembler.proofs.emission.jump_register.Goals as goal

pub encode-requires : goal.encode-requires
encode-requires c = search rules

pub overflow_cast-offset : goal.overflow_cast-offset
overflow_cast-offset c = search rules

pub returns-then-is_immediate : goal.returns-then-is_immediate
returns-then-is_immediate c = search rules

pub returns-else-is_immediate : goal.returns-else-is_immediate
returns-else-is_immediate c = search rules
