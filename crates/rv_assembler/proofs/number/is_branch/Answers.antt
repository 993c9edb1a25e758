use Rattle.std.proofs.Common.{rules}
use Rattle.rv_assembler.proofs.number.is_branch.Goals as goal

pub returns-else-offset-lt4096-clause-fits : goal.returns-else-offset-lt4096-clause-fits
returns-else-offset-lt4096-clause-fits c = search rules

pub returns-else-offset-lt4096-clause-value : goal.returns-else-offset-lt4096-clause-value
returns-else-offset-lt4096-clause-value c = search rules

pub returns-then-offset-lt4096-clause-fits : goal.returns-then-offset-lt4096-clause-fits
returns-then-offset-lt4096-clause-fits c = search rules

pub returns-then-offset-lt4096-clause-value : goal.returns-then-offset-lt4096-clause-value
returns-then-offset-lt4096-clause-value c = search rules
