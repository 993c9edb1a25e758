use Rattle.std.proofs.Common.{rules}
use Rattle.rv_assembler.proofs.testing.are_cores.Goals as goal

pub overflow_add-result : goal.overflow_add-result
overflow_add-result c = search rules

pub returns-then-family-ge1 : goal.returns-then-family-ge1
returns-then-family-ge1 c = search rules

pub returns-else-family-ge1 : goal.returns-else-family-ge1
returns-else-family-ge1 c = search rules
