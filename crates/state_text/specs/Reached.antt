-- Before which event of a document the state is: the one that was asked for, or the first that may not come.
use Rattle.std.specs.Prelude.{◌≡◌, ◌↔◌, ℕ, ◌<◌, ◌≤◌, true, false, List, length, take, slice_get, Some, None, IfSome}
use Rattle.std.specs.List.{IsAmong}
use Rattle.dn_base.specs.declared.ids.Shape.{Shape}
use Rattle.region_table.specs.Program.{ProgramParts}
use Rattle.message_net.specs.declared.event.Event.{Event}
use Rattle.text_places.specs.declared.places.Places.{Places}
use Rattle.registration_protocol.specs.Node.{Setting}
use Rattle.machine_rules.specs.State.{State, initial_state}
use Rattle.machine_rules.specs.Next.{enabled}
use Rattle.machine_rules.specs.Runs.{after, IsRun}
use Rattle.dn_machine.specs.Settings.{IsSettingOf}
use Rattle.state_text.specs.Reasons.{reason_against}
use Rattle.state_text.specs.Holding.{HoldsIn}
use Rattle.state_text.specs.Coming.{enabled_events}
use Rattle.state_text.specs.declared.answer.StateAnswer.{StateAnswer}
use Rattle.state_text.specs.Shown.{shown_text}

-- the state to which the first `count` events lead
abbrev pub state_before : Setting → List Event → ℕ → State
state_before C events place = after (initial_state C) (take place events)

-- the first `came` events come one after the other and lead from S to T; either these are all, or the next one may not come
pub record IsFollowed (S T : State) (events : List Event) (came : ℕ) : Type 0 where
  pub run : IsRun S (take came events)
  pub leads : T ≡ after S (take came events)
  pub within : came ≤ length events
  pub stopped : came < length events → (e : Event) × (slice_get events came ≡ Some e) × (enabled T e ≡ false)

-- the events before this index come one after the other; and it is the index that was asked for, or its event may not come
pub record IsPlaceReached (C : Setting) (events : List Event) (asked place : ℕ) : Type 0 where
  pub run : IsRun (initial_state C) (take place events)
  pub within : place ≤ asked
  pub stopped : place < asked → (e : Event) × (slice_get events place ≡ Some e) × (enabled (state_before C events place) e ≡ false)

-- the reason against an event, if there is one, is true in a state; there is none exactly if the event may come
pub record IsReasoned (S : State) (e : Event) : Type 0 where
  pub holds : IfSome (reason_against S e) (HoldsIn S e)
  pub none : (reason_against S e ≡ None) ↔ (enabled S e ≡ true)

-- the events that are listed are exactly those that may come
abbrev pub AreListed : State → Type 0
AreListed S = (e : Event) → IsAmong (enabled_events S) e ↔ (enabled S e ≡ true)

-- the answer is the text of the state to which the events before its index lead, on the machine of this program, shape and fuel
pub record IsAnswerOf (P : ProgramParts) (shape : Shape) (fuel : ℕ) (places : Places) (events : List Event) (asked : ℕ) (a : StateAnswer) : Type 0 where
  pub setting : Setting
  pub setting_is : IsSettingOf P shape fuel setting
  pub reached : IsPlaceReached setting events asked a.event
  pub reasoned : (e : Event) → IsReasoned (state_before setting events a.event) e
  pub listed : AreListed (state_before setting events a.event)
  pub text_is : a.text.items ≡ shown_text places (state_before setting events a.event) events asked a.event
