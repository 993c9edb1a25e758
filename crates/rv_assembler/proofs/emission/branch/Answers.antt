use Rattle.std.proofs.Common.{rules}
use Rattle.rv_assembler.proofs.emission.branch.Goals as goal

pub encode-requires : goal.encode-requires
encode-requires c = search rules

pub overflow_cast-offset : goal.overflow_cast-offset
overflow_cast-offset c = search rules

pub returns-then-is_branch : goal.returns-then-is_branch
returns-then-is_branch c = search rules

pub returns-else-is_branch : goal.returns-else-is_branch
returns-else-is_branch c = search rules
