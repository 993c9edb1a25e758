use Rattle.write_signature.proofs.SignatureLemmas.{has_bit-joined}
use Rattle.write_signature.proofs.laws.join_has_the_bits_of_either.Goals as goal

pub returns : goal.returns
returns c = has_bit-joined
