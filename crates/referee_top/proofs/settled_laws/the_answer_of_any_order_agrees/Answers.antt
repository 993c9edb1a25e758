use Rattle.referee_top.proofs.SettledLaws.{run-said}
use Rattle.referee_top.proofs.settled_laws.the_answer_of_any_order_agrees.Goals as goal

pub returns : goal.returns
returns c = run-said
