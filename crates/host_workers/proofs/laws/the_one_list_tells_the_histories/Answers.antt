use Rattle.host_workers.proofs.Telling.{answers-told, mails-given}
use Rattle.host_workers.proofs.laws.the_one_list_tells_the_histories.Goals as goal

pub returns-clause-answers : goal.returns-clause-answers
returns-clause-answers c = answers-told

pub returns-clause-mails : goal.returns-clause-mails
returns-clause-mails c = mails-given
