use Rattle.machine_rules.proofs.Buffers.{well-mails}
use Rattle.machine_rules.proofs.laws.few_mails_are_in_flight.Goals as goal

pub returns : goal.returns
returns c = well-mails
