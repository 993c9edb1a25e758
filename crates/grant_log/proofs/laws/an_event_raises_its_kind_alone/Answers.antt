use Rattle.grant_log.proofs.CountLemmas.{raises}
use Rattle.grant_log.proofs.TotalLemmas.{one_more_in_all}
use Rattle.grant_log.proofs.laws.an_event_raises_its_kind_alone.Goals as goal

pub returns-clause-kind : goal.returns-clause-kind
returns-clause-kind c = raises

pub returns-clause-sum : goal.returns-clause-sum
returns-clause-sum c = one_more_in_all
