use Rattle.machine_rules.proofs.Reordered.{sound-reordered}
use Rattle.machine_rules.proofs.ReorderedCoherent.{alike}
use Rattle.machine_rules.proofs.laws.mails_may_stand_in_any_order.Goals as goal

pub returns-clause-sound : goal.returns-clause-sound
returns-clause-sound c = sound-reordered

pub returns-clause-alike : goal.returns-clause-alike
returns-clause-alike c = alike
