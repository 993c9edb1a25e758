-- The promise of every run of the machine: `IsCoherentRun`.
use Rattle.std.specs.Prelude.{◌≡◌, ℕ, ◌+◌, ◌*◌, ◌≤◌, List, ◌++◌, length, slice_index, Some, true}
use Rattle.dn_base.specs.declared.limits.TheConstants.{MOST_EVENTS}
use Rattle.dn_base.specs.declared.ids.LoadSeen.{LoadSeen}
use Rattle.message_net.specs.declared.event.Event.{Event}
use Rattle.grant_log.specs.Counts.{AreCounts}
use Rattle.registration_protocol.specs.Node.{Setting}
use Rattle.flat_machine.specs.Phases.{Flat}
use Rattle.machine_rules.specs.State.{State}
use Rattle.machine_rules.specs.Next.{enabled, seen_in}
use Rattle.machine_rules.specs.Memory.{memory_of}
use Rattle.machine_rules.specs.Runs.{after, IsCompleteRun, grants_of, kinds_of, memory_after, ending_of_run}
use Rattle.machine_rules.specs.Rest.{IsAtRest}
use Rattle.machine_rules.specs.Bound.{retired_in, started_in}
use Rattle.machine_rules.specs.Coherent.{Coherent}
use Rattle.machine_rules.specs.Accesses.{actions_of}
use Rattle.machine_rules.specs.Racing.{IsDataRaceFreeAndSequential}
use Rattle.machine_rules.specs.Guarded.{IsGuarded}
use Rattle.run_agreement.specs.Fronts.{IsFrontOf}
use Rattle.run_agreement.specs.Ends.{HasFlatEnd}
use Rattle.dn_machine.specs.Schedule.{IsScheduled}
use Rattle.dn_machine.specs.declared.record.RunRecord.{RunRecord}

-- what a record tells is read off its events, which come from state S on
pub record IsRecord (S : State) (r : RunRecord) : Type 0 where
  pub granted : r.grants ≡ grants_of S r.events
  pub counted : AreCounts (kinds_of S r.events) r.counts
  pub ends : r.ending ≡ ending_of_run S r.events

-- this holds of every prefix of the events, the empty one and the whole list included
abbrev pub OfEachFront : (List Event → Type 0) → List Event → Type 0
OfEachFront Holds events = (front rest : List Event) → events ≡ front ++ rest → Holds front

-- the initial memory after the stores of the events, each applied as it retires
abbrev pub stored_by : State → List Event → List ℕ
stored_by S events = memory_after S.setting.program.memory S events

-- after these events the state is coherent, its words are the memory to which the stores were applied, and a load that retires
-- next reads that memory
pub record IsTrueAfter (S : State) (events : List Event) : Type 0 where
  pub coherent : Coherent (after S events)
  pub words : memory_of (after S events) ≡ stored_by S events
  pub reads : (e : Event) (seen : LoadSeen) → enabled (after S events) e ≡ true → seen_in (after S events) e ≡ Some seen
      → seen.value ≡ slice_index (stored_by S events) seen.word.0

-- after these events, the grants so far lead the flat machine to a state in which the loads of each task begin with its loads
-- so far
abbrev pub AgreesAfter : Setting → List Event → Type 0
AgreesAfter C events = (F : Flat) × IsFrontOf C events F

-- there are at most 12 events for each instruction that a task has retired and for each task that has started, and 3 for each
-- core in each phase of the program; within the limits of programs and fuel there are at most 25,169,664
pub record HasFewEvents (S : State) (events : List Event) : Type 0 where
  pub few : length events ≤ 12 * (retired_in S events + started_in S events) + 3 * (S.setting.shape.cores * length S.setting.program.phases)
  pub most : length events ≤ MOST_EVENTS

-- r is the record of a complete run from state S on, however its events were picked; S is the initial machine of a setting
pub record IsCoherentRun (S : State) (r : RunRecord) : Type 0 where
  -- each event may come in its turn, and no event may come after the last
  pub complete : IsCompleteRun S r.events
  -- at the end every node is halted, or each task that hasn't ended waits for a lock that another core's task holds
  pub rests : IsAtRest (after S r.events)
  -- what the record tells is read off its events
  pub is_true : IsRecord S r
  -- after each prefix of the events the state is coherent, and shows the stores so far
  pub coherent : OfEachFront (IsTrueAfter S) r.events
  -- the run has no data race, and is sequentially consistent in the order in which its actions retire
  pub race_free_and_sequential : IsDataRaceFreeAndSequential S.setting.shape.cores S.setting.program.memory (actions_of S r.events)
  -- accesses that conflict have a barrier between them, or a lock that both tasks hold is handed on between them
  pub guarded : IsGuarded (actions_of S r.events)
  -- after each prefix the loads so far are prefixes of the flat machine's by the grants so far
  pub agrees : OfEachFront (AgreesAfter S.setting) r.events
  -- the flat machine's run by the grants has the same loads and the same ending
  pub flat : HasFlatEnd S.setting r.events
  pub few : HasFewEvents S r.events

-- the same, for a run whose events the words of a seed picked
pub record IsSeedsRunOf (S : State) (seed : ℕ) (r : RunRecord) : Type 0 where
  pub scheduled : IsScheduled S seed r.events
  pub run : IsCoherentRun S r
