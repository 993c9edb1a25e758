use Rattle.phase_barrier.proofs.CountLemmas.{arrival-phase, arrival-bad}
use Rattle.phase_barrier.proofs.laws.an_arrival_goes_on_at_go_alone.Goals as goal

pub returns-clause-phase : goal.returns-clause-phase
returns-clause-phase c = arrival-phase

pub returns-clause-bad : goal.returns-clause-bad
returns-clause-bad c = arrival-bad
