use Rattle.message_net.proofs.MailLemmas.{sum_by-all_mails, length-all_mails}
use Rattle.message_net.proofs.laws.all_mails_are_added.Goals as goal

pub returns-clause-weight : goal.returns-clause-weight
returns-clause-weight c = sum_by-all_mails

pub returns-clause-length : goal.returns-clause-length
returns-clause-length c = length-all_mails
