use Rattle.src_text.proofs.CutLemmas.{AreLinesOf-cut}
use Rattle.src_text.proofs.laws.lines_make_up_the_text.Goals as goal

pub returns : goal.returns
returns c = AreLinesOf-cut
