use Rattle.message_net.proofs.PoolLemmas.{taken-of_id}
use Rattle.message_net.proofs.laws.a_mail_is_found_by_its_id.Goals as goal

pub returns : goal.returns
returns c = taken-of_id
