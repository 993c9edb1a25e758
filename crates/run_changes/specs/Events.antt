-- What an event changes and sends.
use Rattle.std.specs.Prelude.{ℕ, ◌-◌, List, map, drop, length, Option, Some, None}
use Rattle.message_net.specs.declared.actor.Actor.{Actor}
use Rattle.message_net.specs.declared.actor.Actor.TheVariants.{Keeper}
use Rattle.message_net.specs.declared.event.Event.{Event}
use Rattle.message_net.specs.declared.event.Event.TheVariants.{Handle}
use Rattle.message_net.specs.declared.message.Mail.{Mail}
use Rattle.message_net.specs.declared.message.Outgoing.{Outgoing}
use Rattle.message_net.specs.Pool.{removed}
use Rattle.machine_rules.specs.State.{State}
use Rattle.machine_rules.specs.Next.{next, seen_in, kind_in}
use Rattle.machine_rules.specs.declared.stepped.Stepped.{Stepped}
use Rattle.dn_machine.specs.Actors.{actor_in}
use Rattle.run_changes.specs.declared.change.Change.{Change}
use Rattle.run_changes.specs.declared.change.EventMade.{EventMade}
use Rattle.run_changes.specs.declared.look.Look.{Look}
use Rattle.run_changes.specs.Looks.{look_at}
use Rattle.run_changes.specs.Changes.{changes_by}

-- what an event changes in its actor's state, and what it read and wrote
unfoldable pub event_changes : State → Event → List Change
event_changes S e = changes_by (look_at S e) (seen_in S e) (next S e)

-- how many mails are left in flight before an event sends any: a mail that is handled has been removed
abbrev pub count_left_by : List Mail → Event → ℕ
count_left_by mails (Handle id) = length mails - 1
count_left_by mails _ = length mails

-- the mails that are left in flight before an event sends any
abbrev pub left_in_flight : State → Event → List Mail
left_in_flight S (Handle id) = (removed id S.mails).1
left_in_flight S _ = S.mails

-- what a mail carries, and where to
abbrev pub outgoing_of : Mail → Outgoing
outgoing_of m = record { to = m.to; message = m.message }

-- what an event sends: the mails that stand after those that are left
unfoldable pub sent_in : State → Event → List Outgoing
sent_in S e = map outgoing_of (drop (count_left_by S.mails e) (next S e).mails)

-- the actor that makes an event; an event that may come has one
abbrev pub maker_of : Option Actor → Actor
maker_of None = Keeper
maker_of (Some a) = a

-- what an event does that comes in a state
abbrev pub event_made : State → Event → EventMade
event_made S e = record { actor = maker_of (actor_in S e); kind = kind_in S e; changes = event_changes S e; sent = sent_in S e }

-- what is told of an event that came and led to a state, by what was looked at before it and how many mails were left
abbrev pub event_told : State → Look → ℕ → Actor × Stepped → EventMade
event_told T look left came =
    record { actor = came.0; kind = came.1.kind; changes = changes_by look came.1.seen T; sent = map outgoing_of (drop left T.mails) }
