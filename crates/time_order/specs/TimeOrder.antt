-- A run in time order: each event is the one that can start first.
use Rattle.std.specs.Prelude.{◌≡◌, ◌⊎◌, ℕ, ◌≤◌, ◌==◌, ◌&&◌, ◌||◌, nat_lt, Bool, false, List, [], ◌∷◌, Some}
use Rattle.message_net.specs.declared.actor.MailId.{MailId}
use Rattle.message_net.specs.declared.event.Event.{Event}
use Rattle.message_net.specs.declared.event.Event.TheVariants.{Handle}
use Rattle.message_net.specs.Pool.{count_of}
use Rattle.machine_rules.specs.State.{State}
use Rattle.machine_rules.specs.Next.{next, actor_index_in}
use Rattle.dn_machine.specs.Pick.{own_event_in}
use Rattle.run_timing.specs.declared.network.Network.{Network}
use Rattle.run_timing.specs.declared.ticks.Ticks.{Ticks}
use Rattle.time_order.specs.Clock.{Clock, place_in, start_of, clock_after_event}

-- the candidates, which are those of a draw: each core's own event, and the handling of each message in flight
abbrev pub IsOwnCandidate : State → Event → Type 0
IsOwnCandidate S e = (core : ℕ) × (own_event_in S core ≡ Some e)

abbrev pub IsHandlingCandidate : State → Event → Type 0
IsHandlingCandidate S e = (id : MailId) × (e ≡ Handle id) × (1 ≤ count_of id S.mails)

abbrev pub IsCandidate : State → Event → Type 0
IsCandidate S e = IsOwnCandidate S e ⊎ IsHandlingCandidate S e

-- whether a list of numbers is less than another of the same length: it is so in the first part in which they differ
abbrev pub less : List ℕ → List ℕ → Bool
less [] ys = false
less (x ∷ xs) [] = false
less (x ∷ xs) (y ∷ ys) = nat_lt x y || ((x == y) && less xs ys)

-- the key of a candidate: when it can start; the index of its actor; 0 for a message, which goes before an own event, 1 for an own
-- event; and when the message arrives, its sender's index and the sender's number for it
abbrev pub key_of : State → Clock → Event → List ℕ
key_of S K (Handle id) =
    start_of S K (Handle id) ∷ place_in S (Handle id) ∷ 0 ∷ K.arrival id ∷ actor_index_in S id.sender ∷ id.number ∷ []
key_of S K own = start_of S K own ∷ place_in S own ∷ 1 ∷ 0 ∷ 0 ∷ 0 ∷ []

-- the next event is the candidate with the least key
pub record IsNextEvent (S : State) (K : Clock) (e : Event) : Type 0 where
  pub candidate : IsCandidate S e
  pub least : (other : Event) → IsCandidate S other → less (key_of S K other) (key_of S K e) ≡ false

-- each event is the next one in its turn
abbrev pub AreInTimeOrder : Ticks → Network → State → Clock → List Event → Type 0
AreInTimeOrder ticks network S K [] = Unit {0}
AreInTimeOrder ticks network S K (e ∷ es) = IsNextEvent S K e × AreInTimeOrder ticks network (next S e) (clock_after_event ticks network S K e) es
