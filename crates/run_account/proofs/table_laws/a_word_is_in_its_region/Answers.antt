use Rattle.run_account.proofs.Words.{word-lies}
use Rattle.run_account.proofs.table_laws.a_word_is_in_its_region.Goals as goal

pub returns : goal.returns
returns c = word-lies
