use Rattle.std.proofs.Common.{length, false}
use Rattle.std.proofs.lemmas.List.{length-replicate}
use Rattle.phase_barrier.proofs.ArrivalLemmas.{begins, unmarked}
use Rattle.phase_barrier.proofs.laws.nobody_has_arrived_after_go.Goals as goal

pub returns-clause-phase : goal.returns-clause-phase
returns-clause-phase c = begins

pub returns-clause-flags : goal.returns-clause-flags
returns-clause-flags c k d within = unmarked (length k.arrived) d within

pub returns-clause-cores : goal.returns-clause-cores
returns-clause-cores c k = length-replicate (length k.arrived) false
