use Rattle.std.proofs.Common.{true, length-set}
use Rattle.phase_barrier.proofs.ArrivalLemmas.{get-set}
use Rattle.phase_barrier.proofs.CountLemmas.{arrival-count}
use Rattle.phase_barrier.proofs.laws.a_count_marks_one_core.Goals as goal

pub returns-clause-flags : goal.returns-clause-flags
returns-clause-flags c k core d bad = get-set k.arrived core d

pub returns-clause-cores : goal.returns-clause-cores
returns-clause-cores c k core bad = length-set k.arrived core true

pub returns-clause-count : goal.returns-clause-count
returns-clause-count c = arrival-count
