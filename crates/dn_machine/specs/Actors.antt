-- Which actor makes an event.
use Rattle.std.specs.Prelude.{Option, Some, None}
use Rattle.message_net.specs.declared.actor.Actor.{Actor}
use Rattle.message_net.specs.declared.actor.Actor.TheVariants.{Core}
use Rattle.message_net.specs.declared.event.Event.{Event}
use Rattle.message_net.specs.declared.event.Event.TheVariants.{Instr, Evict, Arrive, Handle}
use Rattle.message_net.specs.declared.message.Mail.{Mail}
use Rattle.message_net.specs.Pool.{removed}
use Rattle.machine_rules.specs.State.{State}

-- the actor that a mail goes to, if there is one
abbrev pub receiver_of : Option Mail → Option Actor
receiver_of None = None
receiver_of (Some m) = Some m.to

-- the actor that makes an event: a core makes its own events, and a mail in flight is handled by its receiver; None if no mail
-- in flight has the id
unfoldable pub actor_in : State → Event → Option Actor
actor_in S (Instr core) = Some (Core core)
actor_in S (Evict core word) = Some (Core core)
actor_in S (Arrive core) = Some (Core core)
actor_in S (Handle id) = receiver_of (removed id S.mails).0
