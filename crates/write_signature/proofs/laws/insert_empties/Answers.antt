use Rattle.write_signature.proofs.SignatureLemmas.{inserted-other_phase}
use Rattle.write_signature.proofs.laws.insert_empties.Goals as goal

pub returns : goal.returns
returns c = inserted-other_phase
