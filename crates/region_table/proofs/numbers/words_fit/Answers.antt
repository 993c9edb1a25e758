use Rattle.region_table.proofs.NumberLemmas.{words-fit}
use Rattle.region_table.proofs.numbers.words_fit.Goals as goal

pub returns : goal.returns
returns c = words-fit c.args.words.now c.type_inv.words
