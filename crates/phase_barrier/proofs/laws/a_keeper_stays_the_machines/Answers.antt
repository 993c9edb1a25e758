use Rattle.phase_barrier.proofs.CountLemmas.{IsBarrier-opened, IsBarrier-gets}
use Rattle.phase_barrier.proofs.laws.a_keeper_stays_the_machines.Goals as goal

pub returns-clause-initial : goal.returns-clause-initial
returns-clause-initial c = IsBarrier-opened

pub returns-clause-kept : goal.returns-clause-kept
returns-clause-kept c = IsBarrier-gets
