use Rattle.message_net.proofs.PoolLemmas.{passes-somewhere}
use Rattle.message_net.proofs.laws.a_counted_mail_stands_somewhere.Goals as goal

pub returns : goal.returns
returns c = passes-somewhere
