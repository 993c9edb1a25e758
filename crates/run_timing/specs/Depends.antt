-- Which events of a run depend on which.
use Rattle.std.specs.Prelude.{◌≡◌, ◌≢◌, ◌⊎◌, ℕ, ◌+◌, ◌<◌, ◌≤◌, List, take, slice_get, Option, Some, None}
use Rattle.message_net.specs.declared.actor.Actor.{Actor}
use Rattle.message_net.specs.declared.actor.MailId.{MailId}
use Rattle.message_net.specs.declared.event.Event.{Event}
use Rattle.message_net.specs.declared.event.Event.TheVariants.{Handle}
use Rattle.message_net.specs.declared.event.EventKind.{EventKind}
use Rattle.message_net.specs.Pool.{count_of}
use Rattle.machine_rules.specs.State.{State}
use Rattle.machine_rules.specs.Next.{kind_in}
use Rattle.machine_rules.specs.Runs.{after}
use Rattle.dn_machine.specs.Actors.{actor_in}

-- the state in which event number i of a list comes; number 0 comes in state S
abbrev pub state_at : State → List Event → ℕ → State
state_at S events i = after S (take i events)

-- the actor that makes an event of a list, and the event's kind; None past the end
abbrev pub actor_of_event : State → Option Event → Option Actor
actor_of_event S None = None
actor_of_event S (Some e) = actor_in S e

abbrev pub actor_at : State → List Event → ℕ → Option Actor
actor_at S events i = actor_of_event (state_at S events i) (slice_get events i)

abbrev pub kind_if_any : State → Option Event → Option EventKind
kind_if_any S None = None
kind_if_any S (Some e) = Some (kind_in S e)

abbrev pub kind_at : State → List Event → ℕ → Option EventKind
kind_at S events i = kind_if_any (state_at S events i) (slice_get events i)

-- event number i is the last event before event number j of the same actor
pub record IsOwnBefore (S : State) (events : List Event) (i j : ℕ) : Type 0 where
  pub earlier : i < j
  pub actor : Actor
  pub makes : actor_at S events i ≡ Some actor
  pub makes_next : actor_at S events j ≡ Some actor
  pub none_between : (k : ℕ) → i < k → k < j → actor_at S events k ≢ Some actor

-- event number i sends the mail with this id: it is in flight after the event, and not before it
pub record Sends (S : State) (events : List Event) (i : ℕ) (id : MailId) : Type 0 where
  pub absent : count_of id (state_at S events i).mails ≡ 0
  pub in_flight : 1 ≤ count_of id (state_at S events (i + 1)).mails

-- event number i sends the mail that event number j handles: it is in flight from the one to the other
pub record IsSender (S : State) (events : List Event) (i j : ℕ) : Type 0 where
  pub earlier : i < j
  pub id : MailId
  pub handled : slice_get events j ≡ Some (Handle id)
  pub sent : Sends S events i id
  pub in_flight : (k : ℕ) → i < k → k ≤ j → 1 ≤ count_of id (state_at S events k).mails

-- event number j depends on event number i
abbrev pub DependsOn : State → List Event → ℕ → ℕ → Type 0
DependsOn S events i j = IsOwnBefore S events i j ⊎ IsSender S events i j
