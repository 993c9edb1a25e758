use Rattle.registry_bank.proofs.ChangeLemmas.{word-changed}
use Rattle.registry_bank.proofs.laws.a_word_changes_alone.Goals as goal

pub returns-clause-words : goal.returns-clause-words
returns-clause-words c = word-changed
