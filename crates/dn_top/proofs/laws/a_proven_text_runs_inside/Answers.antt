use Rattle.dn_top.proofs.ProvedInside.{runs-inside}
use Rattle.dn_top.proofs.laws.a_proven_text_runs_inside.Goals as goal

pub returns : goal.returns
returns c = runs-inside
