use Rattle.phase_barrier.proofs.CountLemmas.{arrives-again}
use Rattle.phase_barrier.proofs.laws.a_core_is_counted_once.Goals as goal

pub returns : goal.returns
returns c = arrives-again
