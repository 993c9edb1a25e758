use Rattle.phase_barrier.proofs.CountLemmas.{keeper_gets-other, phases-kept, cores-kept}
use Rattle.phase_barrier.proofs.laws.only_arrivals_count.Goals as goal

pub returns-clause-other : goal.returns-clause-other
returns-clause-other c = keeper_gets-other

pub returns-clause-phases : goal.returns-clause-phases
returns-clause-phases c = phases-kept

pub returns-clause-cores : goal.returns-clause-cores
returns-clause-cores c = cores-kept
