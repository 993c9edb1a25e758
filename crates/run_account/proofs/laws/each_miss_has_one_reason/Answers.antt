use Rattle.run_account.proofs.Reasons.{misses-add-up}
use Rattle.run_account.proofs.laws.each_miss_has_one_reason.Goals as goal

pub returns : goal.returns
returns c = misses-add-up
