use Rattle.grant_log.proofs.SameLemmas.{one_merge}
use Rattle.grant_log.proofs.laws.a_merge_is_the_only_one.Goals as goal

pub returns : goal.returns
returns c = one_merge
