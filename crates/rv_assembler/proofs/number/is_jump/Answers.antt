use Rattle.std.proofs.Common.{rules}
use Rattle.rv_assembler.proofs.number.is_jump.Goals as goal

pub overflow_cast-offset : goal.overflow_cast-offset
overflow_cast-offset c = search rules

pub returns-else-offset-lt1048576-clause-fits : goal.returns-else-offset-lt1048576-clause-fits
returns-else-offset-lt1048576-clause-fits c = search rules

pub returns-else-offset-lt1048576-clause-value : goal.returns-else-offset-lt1048576-clause-value
returns-else-offset-lt1048576-clause-value c = search rules

pub returns-then-offset-lt1048576-clause-fits : goal.returns-then-offset-lt1048576-clause-fits
returns-then-offset-lt1048576-clause-fits c = search rules

pub returns-then-offset-lt1048576-clause-value : goal.returns-then-offset-lt1048576-clause-value
returns-then-offset-lt1048576-clause-value c = search rules
