use Rattle.phase_barrier.proofs.CountLemmas.{arrival-waits}
use Rattle.phase_barrier.proofs.laws.a_core_waits_until_all_are_told.Goals as goal

pub returns : goal.returns
returns c = arrival-waits
