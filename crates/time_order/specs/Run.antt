-- The promise of a run in time order.
use Rattle.std.specs.Prelude.{◌≡◌}
use Rattle.machine_rules.specs.State.{State}
use Rattle.machine_rules.specs.Runs.{after, IsCompleteRun}
use Rattle.dn_machine.specs.declared.log.Log.{Log}
use Rattle.dn_machine.specs.declared.record.RunRecord.{RunRecord}
use Rattle.dn_machine.specs.Log.{IsLogOf}
use Rattle.dn_machine.specs.Run.{IsCoherentRun}
use Rattle.run_timing.specs.declared.network.Network.{Network}
use Rattle.run_timing.specs.declared.ticks.Ticks.{Ticks}
use Rattle.time_order.specs.Clock.{clock_at_start}
use Rattle.time_order.specs.TimeOrder.{AreInTimeOrder}

-- a log of the whole run in time order, and the state to which it led
pub record HasRunInOrder (ticks : Ticks) (network : Network) (S T : State) (log : Log) : Type 0 where
  pub order : AreInTimeOrder ticks network S clock_at_start log.events
  pub complete : IsCompleteRun S log.events
  pub leads : T ≡ after S log.events
  pub logged : IsLogOf S log.events log

-- the record of the run in time order, which keeps the promises of every run
pub record IsTimeOrderRun (ticks : Ticks) (network : Network) (S : State) (r : RunRecord) : Type 0 where
  pub order : AreInTimeOrder ticks network S clock_at_start r.events
  pub run : IsCoherentRun S r
