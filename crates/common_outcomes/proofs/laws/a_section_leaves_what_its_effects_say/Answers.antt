use Rattle.common_outcomes.proofs.EffectLemmas.{joined-comm, joined-assoc, section-ends}
use Rattle.common_outcomes.proofs.laws.a_section_leaves_what_its_effects_say.Goals as goal

pub returns-clause-comm : goal.returns-clause-comm
returns-clause-comm c = joined-comm

pub returns-clause-assoc : goal.returns-clause-assoc
returns-clause-assoc c = joined-assoc

pub returns-clause-leaves : goal.returns-clause-leaves
returns-clause-leaves c = section-ends
