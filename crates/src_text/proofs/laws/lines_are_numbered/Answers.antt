use Rattle.src_text.proofs.CutLemmas.{AreNumbered-lines_of}
use Rattle.src_text.proofs.laws.lines_are_numbered.Goals as goal

pub returns : goal.returns
returns c = AreNumbered-lines_of
