use Rattle.bank_hall.proofs.ActorHandlings.{port_mails, port_early}
use Rattle.bank_hall.proofs.laws.a_port_loses_no_mail.Goals as goal

pub returns-clause-mails : goal.returns-clause-mails
returns-clause-mails c = port_mails

pub returns-clause-early : goal.returns-clause-early
returns-clause-early c = port_early
