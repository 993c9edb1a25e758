use Rattle.queue_lock.proofs.RowLemmas.{holder-one}
use Rattle.queue_lock.proofs.laws.one_core_holds_a_lock.Goals as goal

pub returns : goal.returns
returns c h x y = holder-one x y h.holder
