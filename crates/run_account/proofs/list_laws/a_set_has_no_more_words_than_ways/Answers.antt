use Rattle.run_account.proofs.Small.{sets-small}
use Rattle.run_account.proofs.list_laws.a_set_has_no_more_words_than_ways.Goals as goal

pub returns : goal.returns
returns c = sets-small
