use Rattle.sentences.proofs.FamilyLemmas.{alone, all-load}
use Rattle.sentences.proofs.laws.an_effect_named_as_remedy_suits_all_tasks_of_its_line.Goals as goal

pub returns-clause-alone : goal.returns-clause-alone
returns-clause-alone c = alone

pub returns-clause-loads : goal.returns-clause-loads
returns-clause-loads c = all-load
