use Rattle.grant_log.proofs.ActorLemmas.{each_kept}
use Rattle.grant_log.proofs.laws.a_merge_keeps_each_log.Goals as goal

pub returns : goal.returns
returns c = each_kept
