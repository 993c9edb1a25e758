use Rattle.rv_isa.proofs.EncodingLemmas.{encoded-unique}
use Rattle.rv_isa.proofs.encoding.encoding_is_unique.Goals as goal

pub returns : goal.returns
returns c = encoded-unique
