use Rattle.host_workers.specs.Rosters.{AreCrewsOf}
use Rattle.host_workers.proofs.Dealing.{nothing}
use Rattle.host_workers.proofs.roster.empty_crews.Given as goal

abbrev pub invariant-loop-worker : goal.invariant-loop-worker
invariant-loop-worker l = AreCrewsOf l.worker (nothing l.fn.keeper.items) l.crews.items
