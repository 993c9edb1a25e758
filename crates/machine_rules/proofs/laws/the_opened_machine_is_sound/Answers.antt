use Rattle.machine_rules.proofs.OpenedSound.{opened-sound}
use Rattle.machine_rules.proofs.laws.the_opened_machine_is_sound.Goals as goal

pub returns : goal.returns
returns c = opened-sound
