-- Which event a draw picks in a state.
use Rattle.std.specs.Prelude.{ℕ, ◌%◌, List, ◌++◌, length, map, slice_get, Option, Some, None}
use Rattle.std.specs.List.{filter_map}
use Rattle.message_net.specs.declared.event.Event.{Event}
use Rattle.message_net.specs.declared.event.Event.TheVariants.{Handle}
use Rattle.message_net.specs.declared.message.Mail.{Mail}
use Rattle.registration_protocol.specs.Node.{NodeParts, Setting}
use Rattle.registration_protocol.specs.OwnEvents.{own_event}
use Rattle.machine_rules.specs.State.{State}
use Rattle.dn_machine.specs.declared.picking.Choice.{Choice}
use Rattle.dn_machine.specs.declared.picking.Choice.TheVariants.{Own, Mail as MailAt}

-- the own events that there are, in the order of cores
abbrev pub known_events : List (Option Event) → List Event
known_events own = filter_map (λ (o : Option Event). o) own

-- the own event of a core in a state: its instruction; or else the eviction of the victim, if its next access lacks room; or else its
-- arrival at the barrier. None if the core doesn't exist or has no own event
abbrev pub own_event_of : Setting → Option NodeParts → Option Event
own_event_of C None = None
own_event_of C (Some n) = own_event C n

unfoldable pub own_event_in : State → ℕ → Option Event
own_event_in S core = own_event_of S.setting (slice_get S.nodes core)

-- the handling of each mail, in the order of their places
abbrev pub handlings : List Mail → List Event
handlings mails = map (λ (m : Mail). Handle m.id) mails

-- the events that may be picked: each core's own event, then the handling of each mail
abbrev pub candidates : List (Option Event) → List Mail → List Event
candidates own mails = known_events own ++ handlings mails

-- the candidate at the draw, modulo their number; None where there is none
abbrev pub picked : List Event → ℕ → Option Event
picked events draw = slice_get events (draw % length events)

-- the event that a draw picks in a state
unfoldable pub pick : State → ℕ → Option Event
pick S draw = picked (candidates (map (own_event S.setting) S.nodes) S.mails) draw

-- the event of a choice
abbrev pub handling_event : Option Mail → Option Event
handling_event None = None
handling_event (Some m) = Some (Handle m.id)

abbrev pub chosen : List Mail → Option Choice → Option Event
chosen mails None = None
chosen mails (Some (Own e)) = Some e
chosen mails (Some (MailAt place)) = handling_event (slice_get mails place)
