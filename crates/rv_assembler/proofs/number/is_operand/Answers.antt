use Rattle.std.proofs.Common.{rules}
use Rattle.rv_assembler.proofs.number.is_operand.Goals as goal

pub returns-else-number-ge0-clause-fits : goal.returns-else-number-ge0-clause-fits
returns-else-number-ge0-clause-fits c = search rules

pub returns-else-number-ge0-clause-value : goal.returns-else-number-ge0-clause-value
returns-else-number-ge0-clause-value c = search rules

pub returns-then-number-ge0-clause-fits : goal.returns-then-number-ge0-clause-fits
returns-then-number-ge0-clause-fits c = search rules

pub returns-then-number-ge0-clause-value : goal.returns-then-number-ge0-clause-value
returns-then-number-ge0-clause-value c = search rules

pub returns-in_default : goal.returns-in_default
returns-in_default c = search rules
