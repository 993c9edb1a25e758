-- The result of a replay of events on the machine.
use Rattle.std.specs.Prelude.{◌≡◌, ℕ, List, ◌∷◌, ◌++◌, length, true, false}
use Rattle.dn_base.specs.declared.ids.Grant.{Grant}
use Rattle.dn_base.specs.declared.ids.Shape.{Shape}
use Rattle.region_table.specs.Program.{ProgramParts}
use Rattle.rv_core.specs.declared.ending.Ending.{Ending}
use Rattle.message_net.specs.declared.event.Event.{Event}
use Rattle.grant_log.specs.declared.counts.Counts.{Counts}
use Rattle.registration_protocol.specs.Node.{Setting}
use Rattle.machine_rules.specs.State.{State, initial_state}
use Rattle.machine_rules.specs.Next.{enabled}
use Rattle.machine_rules.specs.Runs.{after, IsRun, IsOver}
use Rattle.dn_machine.specs.declared.log.Log.{Log}
use Rattle.dn_machine.specs.Ends.{noted_ending}
use Rattle.dn_machine.specs.Run.{IsCoherentRun}
use Rattle.dn_machine.specs.Settings.{IsSettingOf}
use Rattle.run_replay.specs.declared.replaying.Replayed.{Replayed}
use Rattle.run_replay.specs.declared.replaying.Replayed.TheVariants.{Complete, NotEnabled, Incomplete}

-- the events are a complete run of the initial machine, with this ending, these grants and these counts, one for each of the
-- seventeen kinds of event; so the promise of runs holds
pub record IsRunWith (C : Setting) (events : List Event) (ending : Ending) (grants : List Grant) (counts : Counts) : Type 0 where
  pub run : IsCoherentRun (initial_state C) (record { events = events; grants = grants; counts = counts; ending = ending })
  pub each_kind : length counts.kinds ≡ 17

-- the event of this number, from 0, is the first that may not come in its turn
pub record IsFirstNotEnabled (C : Setting) (events : List Event) (number : ℕ) : Type 0 where
  pub before : List Event
  pub event : Event
  pub rest : List Event
  pub parts : events ≡ before ++ event ∷ rest
  pub place : length before ≡ number
  pub run : IsRun (initial_state C) before
  pub stopped : enabled (after (initial_state C) before) event ≡ false

-- each event may come in its turn, and after them another one
pub record IsUnfinished (C : Setting) (events : List Event) : Type 0 where
  pub run : IsRun (initial_state C) events
  pub more : Event
  pub may : enabled (after (initial_state C) events) more ≡ true

-- the answer is true of the events
abbrev pub IsTrueOf : Setting → List Event → Replayed → Type 0
IsTrueOf C events (Complete ending grants counts) = IsRunWith C events ending grants counts
IsTrueOf C events (NotEnabled number) = IsFirstNotEnabled C events number
IsTrueOf C events Incomplete = IsUnfinished C events

-- whether another event may come in a state; if not, the ending, grants and counts that the state and a log tell
abbrev pub IsReplayOutcome : State → Log → Replayed → Type 0
IsReplayOutcome S log (Complete ending grants counts) =
    IsOver S × (ending ≡ noted_ending log.ends S) × (grants ≡ log.grants) × (counts ≡ log.counts) × (length counts.kinds ≡ 17)
IsReplayOutcome S log (NotEnabled number) = ⊥
IsReplayOutcome S log Incomplete = (e : Event) × (enabled S e ≡ true)

-- it is the answer for the machine of a program with this shape and fuel
pub record IsReplayOf (P : ProgramParts) (shape : Shape) (fuel : ℕ) (events : List Event) (r : Replayed) : Type 0 where
  pub setting : Setting
  pub setting_is : IsSettingOf P shape fuel setting
  pub is_true : IsTrueOf setting events r
