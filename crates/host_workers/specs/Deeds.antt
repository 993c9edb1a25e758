-- Steps of a core that a worker owns.
use Rattle.std.specs.Prelude.{◌≡◌, ℕ, ◌+◌, ◌^◌, ◌≤◌, Bool, true, List, [], ◌∷◌, ◌++◌, length, map, filter_map, Option, Some}
use Rattle.std.specs.Option.{option_to_list}
use Rattle.dn_base.specs.declared.ids.CoreId.{CoreId}
use Rattle.grant_log.specs.declared.log.Stamped.{Stamped}
use Rattle.message_net.specs.declared.actor.Actor.TheVariants.{Core}
use Rattle.message_net.specs.declared.event.Event.{Event}
use Rattle.message_net.specs.declared.event.EventKind.{EventKind}
use Rattle.message_net.specs.Mail.{mails_of}
use Rattle.registration_protocol.specs.Node.{NodeParts, Setting}
use Rattle.grant_log.specs.declared.posted.Posted.{Posted}
use Rattle.host_workers.specs.declared.end_seen.EndSeen.{EndSeen}
use Rattle.host_workers.specs.Members.{Deed, Makes, Came, NodeIs}
use Rattle.host_workers.specs.Steps.{Done, Step, Goes, clock_after, deed_stamp, done_of, with_stamp}
use Rattle.host_workers.specs.Passes.{Held, held_member, end_seen, seen_at}
use Rattle.host_workers.specs.declared.deeds.NodeCame.{NodeCame}

-- what came of a node's event, with the node that it left
abbrev pub came_with : NodeParts → NodeCame → Came
came_with n came = record { parts = NodeIs n; sent = option_to_list came.sent; granted = came.granted; end = came.end }

-- the step that a deed of the core is
abbrev pub step_of_deed : Setting → CoreId → Held → Deed → Step
step_of_deed C core h deed =
    record { deed = deed; done = done_of C (Core core) (held_member h) (deed_stamp h.clock deed) deed }

abbrev pub step_note : Step → Stamped
step_note s = s.done.stamped

abbrev pub step_end : Step → Option EndSeen
step_end s = end_seen s.done

-- the core made these steps, and its log and its ends tell of them
pub record HasMoved (C : Setting) (core : CoreId) (steps : List Step) (old new : Held) : Type 0 where
  pub goes : Goes C (Core core) old.clock (held_member old) steps (held_member new)
  pub clock : new.clock ≡ clock_after old.clock steps
  pub log : new.log ≡ old.log ++ map step_note steps
  pub ends : new.ends ≡ old.ends ++ filter_map step_end steps

-- an event is noted with its stamp and result, and the core sends this mail, if it sends one
pub record IsNoted (core : CoreId) (stamp : ℕ) (event : Event) (kind : EventKind) (came : NodeCame) (old new : Held) (sent : Option Posted) : Type 0 where
  pub node : new.node ≡ old.node
  pub clock : new.clock ≡ stamp
  pub next : new.next ≡ old.next + length (option_to_list came.sent)
  pub log : new.log ≡ old.log ++ record { stamp = stamp; actor = Core core; event = event; kind = kind; granted = came.granted } ∷ []
  pub ends : new.ends ≡ old.ends ++ option_to_list (seen_at stamp came.end)
  pub mail : option_to_list sent ≡ map (with_stamp stamp) (mails_of (Core core) old.next (option_to_list came.sent))

-- the step of a node's own event, if the core has numbers left and the node has an own event
abbrev pub own_steps : Bool → Option Event → Done → List Step
own_steps true (Some e) done = record { deed = Makes e; done = done } ∷ []
own_steps _ _ done = []

-- a mail that may be posted
abbrev pub IsEarly : Posted → Type 0
IsEarly p = p.stamp ≤ 2 ^ 63
