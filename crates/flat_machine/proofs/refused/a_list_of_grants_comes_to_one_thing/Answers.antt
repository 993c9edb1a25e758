use Rattle.flat_machine.proofs.RefusedLemmas.{comes-to_some, comes-to_one, refused_none}
use Rattle.flat_machine.proofs.refused.a_list_of_grants_comes_to_one_thing.Goals as goal

pub returns-clause-some : goal.returns-clause-some
returns-clause-some c = comes-to_some

pub returns-clause-one : goal.returns-clause-one
returns-clause-one c = comes-to_one

pub returns-clause-none : goal.returns-clause-none
returns-clause-none c = λ P fuel place gs h. refused_none P fuel gs place h
