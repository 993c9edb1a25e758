use Rattle.phase_barrier.proofs.ArrivalLemmas.{stays}
use Rattle.phase_barrier.proofs.laws.a_full_barrier_stays.Goals as goal

pub returns : goal.returns
returns c = stays
