use Rattle.registry_bank.proofs.KeptLemmas.{place-kept}
use Rattle.registry_bank.proofs.laws.a_bank_keeps_its_shape.Goals as goal

pub returns-clause-number : goal.returns-clause-number
returns-clause-number c b m = (place-kept b m).bank

pub returns-clause-banks : goal.returns-clause-banks
returns-clause-banks c b m = (place-kept b m).banks

pub returns-clause-cores : goal.returns-clause-cores
returns-clause-cores c b m = (place-kept b m).cores

pub returns-clause-words : goal.returns-clause-words
returns-clause-words c b m = (place-kept b m).words

pub returns-clause-locks : goal.returns-clause-locks
returns-clause-locks c b m = (place-kept b m).locks
