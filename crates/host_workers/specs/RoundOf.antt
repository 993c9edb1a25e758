-- What one round of workers does to a machine, and how rounds add up to a run.
use Rattle.std.specs.Prelude.{◌≡◌, ◌≢◌, ◌+◌, ◌≤◌, true, List, [], ◌++◌, length, map}
use Rattle.message_net.specs.declared.event.Event.{Event}
use Rattle.message_net.specs.declared.event.EventKind.{EventKind}
use Rattle.grant_log.specs.declared.log.Stamped.{Stamped}
use Rattle.grant_log.specs.Counts.{AreCounts}
use Rattle.grant_log.specs.Log.{grants_in}
use Rattle.registration_protocol.specs.Node.{Setting}
use Rattle.machine_rules.specs.State.{State, initial_state}
use Rattle.machine_rules.specs.Next.{enabled}
use Rattle.machine_rules.specs.Runs.{after, IsRun, read_off, grants_of, kinds_of}
use Rattle.machine_rules.specs.Sound.{IsReady}
use Rattle.dn_machine.specs.declared.log.Log.{Log}
use Rattle.dn_machine.specs.Ends.{no_ends}
use Rattle.dn_machine.specs.Kept.{Made}
use Rattle.dn_machine.specs.Parts.{IsReordered}
use Rattle.dn_machine.specs.Run.{IsCoherentRun}
use Rattle.host_workers.specs.Rounds.{IsReached, events_of, noted_kind, end_observed}
use Rattle.host_workers.specs.declared.round.Round.{Round}
use Rattle.host_workers.specs.declared.run.WorkersRun.{WorkersRun}
use Rattle.host_workers.specs.Ends.{with_ends}

-- the events of a round are a run from state S on; the machine's state after it is the one to which they lead, except for the
-- order of the mails in flight; and their kinds, grants and ends are the run's
pub record IsRoundFrom (S : State) (r : Round) : Type 0 where
  pub run : IsRun S (events_of r.merged.items)
  pub leads : IsReordered (after S (events_of r.merged.items)) r.machine.state
  pub kinds : map noted_kind r.merged.items ≡ kinds_of S (events_of r.merged.items)
  pub grants : grants_in r.merged.items ≡ grants_of S (events_of r.merged.items)
  pub ends : r.ends.items ≡ read_off end_observed S (events_of r.merged.items)

-- a round of the workers of a machine: a run from each state that differs from the machine's only in the order of mails, with
-- at least one event if any may come
pub record IsRoundBy (m : Made) (r : Round) : Type 0 where
  pub runs : (S : State) → IsReached m.state.setting S → IsReordered S m.state → IsRoundFrom S r
  pub setting : r.machine.state.setting ≡ m.state.setting
  pub made : r.machine.made ≡ m.made + length r.merged.items
  pub some : (e : Event) → enabled m.state e ≡ true → r.merged.items ≢ []

-- the counts of a log are those of some events, and it notes at least as many events
pub record IsTallied (kinds : List EventKind) (log : Log) : Type 0 where
  pub all : length log.counts.kinds ≡ 17
  pub counts : AreCounts kinds log.counts
  pub few : length kinds ≤ length log.events

-- a log with the entries of a list
pub record HasNoted (entries : List Stamped) (old new : Log) : Type 0 where
  pub events : new.events ≡ old.events ++ events_of entries
  pub grants : new.grants ≡ old.grants ++ grants_in entries
  pub counts : (kinds : List EventKind) → IsTallied kinds old → IsTallied (kinds ++ map noted_kind entries) new
  pub ends : new.ends ≡ old.ends

-- a log with the entries of a round, and with the ends of the tasks that arrived in it
pub record HasNotedRound (r : Round) (old new : Log) : Type 0 where
  pub noted : Log
  pub entries : HasNoted r.merged.items old noted
  pub ends : new ≡ record noted { ends = with_ends r.ends.items noted.ends }

-- the rounds so far: their events are a run of the initial machine; the machine is in the state to which they lead, except for
-- the order of the mails in flight; and the log tells of them, with the ends with which tasks arrived
pub record IsRunSoFar (C : Setting) (m : Made) (log : Log) : Type 0 where
  pub ready : IsReady C
  pub run : IsRun (initial_state C) log.events
  pub leads : IsReordered (after (initial_state C) log.events) m.state
  pub made : m.made ≡ length log.events
  pub grants : log.grants ≡ grants_of (initial_state C) log.events
  pub counts : IsTallied (kinds_of (initial_state C) log.events) log
  pub ends : log.ends ≡ with_ends (read_off end_observed (initial_state C) log.events) (no_ends (length (initial_state C).setting.program.phases))

-- workers made a run from state S on, with all that is promised of runs. The machine beside it is in the state to which the run's events lead,
-- except for the order of the mails in flight
pub record IsMadeByWorkers (S : State) (w : WorkersRun) : Type 0 where
  pub run : IsCoherentRun S w.run
  pub leads : IsReordered (after S w.run.events) w.machine.state
  pub made : w.machine.made ≡ length w.run.events
