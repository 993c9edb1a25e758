use Rattle.grant_log.proofs.OrderLemmas.{by_stamp}
use Rattle.grant_log.proofs.laws.stamps_come_first.Goals as goal

pub returns : goal.returns
returns c = by_stamp
