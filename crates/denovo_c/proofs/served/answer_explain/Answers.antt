use Rattle.denovo_c.proofs.Starving.{unheld}
use Rattle.denovo_c.proofs.served.answer_explain.Goals as goal

pub returns-in-Err : goal.returns-in-Err
returns-in-Err c = unheld _ c.args.text.now _
