use Rattle.machine_rules.proofs.SoundEvents.{sound-next}
use Rattle.machine_rules.proofs.laws.a_state_stays_sound.Goals as goal

pub returns : goal.returns
returns c = sound-next
