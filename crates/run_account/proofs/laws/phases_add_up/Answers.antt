use Rattle.run_account.proofs.Grouped.{phases-sum}
use Rattle.run_account.proofs.laws.phases_add_up.Goals as goal

pub returns : goal.returns
returns c = phases-sum
