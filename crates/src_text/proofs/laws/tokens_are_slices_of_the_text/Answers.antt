use Rattle.src_text.proofs.SliceLemmas.{AreSlices-lines_of}
use Rattle.src_text.proofs.PartLemmas.{ArePlaced-lines_of, AreNamed-lines_of}
use Rattle.src_text.proofs.laws.tokens_are_slices_of_the_text.Goals as goal

pub returns : goal.returns
returns c = record { places = ArePlaced-lines_of; kinds = AreSlices-lines_of; names = AreNamed-lines_of }
