-- What each actor can do first, and which actor can start first.
use Rattle.std.specs.Prelude.{◌≡◌, ℕ, ◌<◌, ◌≤◌, max, nat_lt, List, slice_get, Option, Some, None, if◌then◌else◌}
use Rattle.message_net.specs.declared.event.Event.{Event}
use Rattle.message_net.specs.declared.event.Event.TheVariants.{Handle}
use Rattle.time_order.specs.declared.choice.Choice.{Choice}
use Rattle.time_order.specs.declared.flight.Flight.{Flight}

-- an own event starts when its actor is free; a message is handled when it has arrived and its receiver is free
abbrev pub own_choice : ℕ → Event → Choice
own_choice free e = record { start = free; event = e }

abbrev pub mail_choice : ℕ → Flight → Choice
mail_choice free f = record { start = max f.arrival free; event = Handle f.id }

-- what an actor can start first, by its own event, when it is free, and the first message to it: the message, unless that arrives
-- only after an own event can start
abbrev pub choice_of : Option Event → ℕ → Option Flight → Option Choice
choice_of None free None = None
choice_of (Some e) free None = Some (own_choice free e)
choice_of None free (Some f) = Some (mail_choice free f)
choice_of (Some e) free (Some f) = if nat_lt free f.arrival then Some (own_choice free e) else Some (mail_choice free f)

-- of the first n actors, the one that can start first; of several the one with the least index
pub record IsFirstChoice (choices : List (Option Choice)) (n : ℕ) (first : Option (ℕ × Choice)) : Type 0 where
  pub none : first ≡ None → (place : ℕ) → place < n → slice_get choices place ≡ Some None
  pub found : (r : ℕ × Choice) → first ≡ Some r → slice_get choices r.0 ≡ Some (Some r.1)
  pub within : (r : ℕ × Choice) → first ≡ Some r → r.0 < n
  pub least : (r : ℕ × Choice) → first ≡ Some r → (place : ℕ) (c : Choice) → place < n → slice_get choices place ≡ Some (Some c) → r.1.start ≤ c.start
  pub before : (r : ℕ × Choice) → first ≡ Some r → (place : ℕ) (c : Choice) → place < r.0 → slice_get choices place ≡ Some (Some c) → r.1.start < c.start
