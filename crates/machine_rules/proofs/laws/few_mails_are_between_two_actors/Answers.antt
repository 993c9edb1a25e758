use Rattle.machine_rules.proofs.Channels.{well-between}
use Rattle.machine_rules.proofs.laws.few_mails_are_between_two_actors.Goals as goal

pub returns : goal.returns
returns c = well-between
