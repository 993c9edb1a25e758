use Rattle.host_workers.proofs.MailsSent.{numbers-low}
use Rattle.host_workers.proofs.laws.mail_numbers_stay_low.Goals as goal

pub returns : goal.returns
returns c = numbers-low
