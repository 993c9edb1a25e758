use Rattle.rv_core.proofs.Completions.{whole-merged}
use Rattle.rv_core.proofs.laws.a_whole_store_leaves_the_same_over_any_word.Goals as goal

pub returns : goal.returns
returns c = whole-merged
