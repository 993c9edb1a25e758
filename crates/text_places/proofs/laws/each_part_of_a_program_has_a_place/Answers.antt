use Rattle.text_places.proofs.LineLemmas.{all-code, all-regions, all-locks, all-phases}
use Rattle.text_places.proofs.laws.each_part_of_a_program_has_a_place.Goals as goal

pub returns-clause-code : goal.returns-clause-code
returns-clause-code c = all-code

pub returns-clause-regions : goal.returns-clause-regions
returns-clause-regions c = all-regions

pub returns-clause-locks : goal.returns-clause-locks
returns-clause-locks c = all-locks

pub returns-clause-phases : goal.returns-clause-phases
returns-clause-phases c = all-phases
