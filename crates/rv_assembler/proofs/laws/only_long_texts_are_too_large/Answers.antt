use Rattle.rv_assembler.proofs.LargeLemmas.{too-large}
use Rattle.rv_assembler.proofs.laws.only_long_texts_are_too_large.Goals as goal

pub returns : goal.returns
returns c = too-large
