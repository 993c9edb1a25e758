-- Notes of actors and mails: for each actor, by its index, its last event; and for each of its mails, by the mail's number, the
-- event that sent it.
use Rattle.std.specs.Prelude.{ℕ, List, [], ◌++◌, replicate, slice_get, slice_set, slice_index_or, Option, Some, None}
use Rattle.dn_base.specs.declared.ids.Shape.{Shape}
use Rattle.message_net.specs.declared.actor.Actor.{Actor}
use Rattle.message_net.specs.declared.event.Event.{Event}
use Rattle.message_net.specs.declared.event.Event.TheVariants.{Handle}
use Rattle.message_net.specs.Mail.{actor_index}
use Rattle.run_timing.specs.declared.network.Network.{Network}
use Rattle.run_timing.specs.Network.{delay}

abbrev pub last_at : List (Option ℕ) → ℕ → Option ℕ
last_at last place = slice_index_or last place None

abbrev pub senders_at : List (List ℕ) → ℕ → List ℕ
senders_at senders place = slice_index_or senders place []

-- an event of the actor at an index comes, and sends this many mails
abbrev pub noted_last : ℕ → ℕ → List (Option ℕ) → List (Option ℕ)
noted_last place event last = slice_set last place (Some event)

abbrev pub noted_senders : ℕ → ℕ → ℕ → List (List ℕ) → List (List ℕ)
noted_senders place count event senders = slice_set senders place (senders_at senders place ++ replicate count event)

-- the event that sent the mail that an event handles, in a machine with these numbers of cores and banks
abbrev pub sender_in : ℕ → ℕ → List (List ℕ) → Event → Option ℕ
sender_in cores banks senders (Handle id) = slice_get (senders_at senders (actor_index cores banks id.sender)) id.number
sender_in cores banks senders _ = None

-- how long the mail that an event handles is under way to the actor that makes the event
abbrev pub handled_delay : Network → Shape → Actor → Event → ℕ
handled_delay network shape to (Handle id) = delay network shape id.sender to
handled_delay network shape to _ = 0
