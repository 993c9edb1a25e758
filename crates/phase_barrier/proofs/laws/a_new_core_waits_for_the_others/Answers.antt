use Rattle.phase_barrier.proofs.ArrivalLemmas.{waits}
use Rattle.phase_barrier.proofs.laws.a_new_core_waits_for_the_others.Goals as goal

pub returns : goal.returns
returns c = waits
