-- The messages in flight to each actor, in the order in which it handles them.
use Rattle.std.specs.Prelude.{◌≡◌, ℕ, ◌+◌, ◌==◌, false, List, [], ◌∷◌, slice_index_or, if◌then◌else◌, sum_by, AllPairs}
use Rattle.dn_base.specs.declared.ids.Shape.{Shape}
use Rattle.message_net.specs.declared.event.Event.{Event}
use Rattle.message_net.specs.declared.event.Event.TheVariants.{Handle}
use Rattle.message_net.specs.declared.message.Mail.{Mail}
use Rattle.message_net.specs.Mail.{actor_index}
use Rattle.message_net.specs.Pool.{removed}
use Rattle.machine_rules.specs.State.{State}
use Rattle.time_order.specs.declared.flight.Flight.{Flight}
use Rattle.run_timing.specs.declared.network.Network.{Network}
use Rattle.run_timing.specs.Network.{delay}
use Rattle.time_order.specs.TimeOrder.{less}

-- the order of messages to one actor: by arrival, sender and the sender's number
abbrev pub order_of : Flight → List ℕ
order_of f = f.arrival ∷ f.sender ∷ f.id.number ∷ []

-- none of the messages comes before one that stands before it
abbrev pub AreSorted : List Flight → Type 0
AreSorted flights = AllPairs (λ (f g : Flight). less (order_of g) (order_of f) ≡ false) flights

-- the messages to the actor at an index
abbrev pub queue_at : List (List Flight) → ℕ → List Flight
queue_at queues place = slice_index_or queues place []

-- a message that is sent at a tick
abbrev pub flight_of : Network → Shape → ℕ → Mail → Flight
flight_of network shape sent m =
    record { arrival = sent + delay network shape m.id.sender m.to; sender = actor_index shape.cores shape.banks m.id.sender; id = m.id }

-- what the messages of a list to the actor at an index weigh, if they are sent at a tick
abbrev pub weight_to : Network → Shape → ℕ → ℕ → (Flight → ℕ) → List Mail → ℕ
weight_to network shape sent place weight mails =
    sum_by (λ (m : Mail). if actor_index shape.cores shape.banks m.to == place then weight (flight_of network shape sent m) else 0) mails

-- what an event takes from the messages to its actor weighs: a handling takes the first one
abbrev pub weight_taken : Event → List Flight → (Flight → ℕ) → ℕ
weight_taken (Handle id) (f ∷ fs) weight = weight f
weight_taken _ _ weight = 0

-- the mails that stay in flight while an event comes: a handling removes its own
abbrev pub left_by : State → Event → List Mail
left_by S (Handle id) = (removed id S.mails).1
left_by S own = S.mails
