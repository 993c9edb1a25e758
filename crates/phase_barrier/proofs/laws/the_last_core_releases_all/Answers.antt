use Rattle.phase_barrier.proofs.ArrivalLemmas.{releases}
use Rattle.phase_barrier.proofs.laws.the_last_core_releases_all.Goals as goal

pub returns : goal.returns
returns c = releases
