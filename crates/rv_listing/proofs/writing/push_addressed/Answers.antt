use Rattle.rv_listing.proofs.TypeLemmas.{words-fit}
use Rattle.rv_listing.proofs.writing.push_addressed.Goals as goal

pub returns-clause-words : goal.returns-clause-words
returns-clause-words c = words-fit c.args.code.now c.type_inv.code
