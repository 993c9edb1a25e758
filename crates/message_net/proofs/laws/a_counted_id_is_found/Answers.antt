use Rattle.message_net.proofs.PoolLemmas.{found-counted, taken-none}
use Rattle.message_net.proofs.laws.a_counted_id_is_found.Goals as goal

pub returns-clause-some : goal.returns-clause-some
returns-clause-some c = found-counted

pub returns-clause-none : goal.returns-clause-none
returns-clause-none c = taken-none
