use Rattle.std.proofs.Common.{◌≡◌, ◌-◌, length}
use Rattle.host_workers.specs.RoundOf.{IsRunSoFar}
use Rattle.host_workers.proofs.run.make_rounds.Given as goal

abbrev pub invariant-rounds : goal.invariant-rounds
invariant-rounds g l = record {
  far : IsRunSoFar l.fn.machine.state.setting l.current l.log;
  setting : l.current.state.setting ≡ l.fn.machine.state.setting;
}

abbrev pub decreases-rounds : goal.decreases-rounds
decreases-rounds g l = 25169665 - length l.log.events
