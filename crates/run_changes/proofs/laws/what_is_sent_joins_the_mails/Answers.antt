use Rattle.run_changes.proofs.Sent.{sent-joins, sent-numbers}
use Rattle.run_changes.proofs.laws.what_is_sent_joins_the_mails.Goals as goal

pub returns-clause-mails : goal.returns-clause-mails
returns-clause-mails c = sent-joins

pub returns-clause-numbers : goal.returns-clause-numbers
returns-clause-numbers c = sent-numbers
