use Rattle.run_account.proofs.Mails.{messages-are-mails}
use Rattle.run_account.proofs.list_laws.messages_are_the_mails_about_words.Goals as goal

pub returns : goal.returns
returns c = messages-are-mails
