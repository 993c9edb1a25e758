use Rattle.common_outcomes.proofs.Joint.{effects-joint}
use Rattle.common_outcomes.proofs.Summing.{after-here}
use Rattle.common_outcomes.proofs.laws.a_word_after_a_phase_is_as_all_sections_say.Goals as goal

pub returns-clause-joint : goal.returns-clause-joint
returns-clause-joint c = effects-joint

pub returns-clause-after : goal.returns-clause-after
returns-clause-after c = after-here
