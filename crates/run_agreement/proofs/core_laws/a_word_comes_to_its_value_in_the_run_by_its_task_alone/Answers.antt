use Rattle.run_agreement.proofs.Agreeing.{load-known}
use Rattle.run_agreement.proofs.Holding.{world-separate}
use Rattle.run_agreement.proofs.core_laws.a_word_comes_to_its_value_in_the_run_by_its_task_alone.Goals as goal

pub returns : goal.returns
returns c = λ P fuel gs W i r w is checked h there may. load-known P fuel W h.flat i r w (world-separate P fuel W is checked h.world) there may h.leads
