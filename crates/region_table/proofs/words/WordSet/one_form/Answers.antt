use Rattle.region_table.proofs.WordLemmas.{same_words}
use Rattle.region_table.proofs.words.WordSet.one_form.Goals as goal

pub returns : goal.returns
returns c = same_words 0
