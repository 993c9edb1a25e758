use Rattle.common_outcomes.proofs.OneEnd.{one-end}
use Rattle.common_outcomes.proofs.laws.without_locks_nothing_varies.Goals as goal

pub returns : goal.returns
returns c = one-end
