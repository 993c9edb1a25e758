use Rattle.grant_log.proofs.TotalLemmas.{all_counted, one_counts}
use Rattle.grant_log.proofs.laws.counts_add_up.Goals as goal

pub returns-clause-sum : goal.returns-clause-sum
returns-clause-sum c = all_counted

pub returns-clause-one : goal.returns-clause-one
returns-clause-one c = one_counts
