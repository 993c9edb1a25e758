use Rattle.message_net.proofs.PoolLemmas.{sum_by-without, sum_by-taken}
use Rattle.message_net.proofs.laws.a_take_frees_one_mail.Goals as goal

pub returns-clause-weight : goal.returns-clause-weight
returns-clause-weight c = sum_by-without

pub returns-clause-by_id : goal.returns-clause-by_id
returns-clause-by_id c = sum_by-taken
