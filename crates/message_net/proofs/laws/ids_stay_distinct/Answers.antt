use Rattle.message_net.proofs.PoolLemmas.{AreDistinct-posted, AreDistinct-without, count_of-taken}
use Rattle.message_net.proofs.MailLemmas.{AreDistinct-all_mails}
use Rattle.message_net.proofs.laws.ids_stay_distinct.Goals as goal

pub returns-clause-post : goal.returns-clause-post
returns-clause-post c = AreDistinct-posted

pub returns-clause-take : goal.returns-clause-take
returns-clause-take c = AreDistinct-without

pub returns-clause-gone : goal.returns-clause-gone
returns-clause-gone c = count_of-taken

pub returns-clause-sent : goal.returns-clause-sent
returns-clause-sent c = AreDistinct-all_mails
