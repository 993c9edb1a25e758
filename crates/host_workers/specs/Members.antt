-- An actor of the machine by itself, and what it does with a mail or by its own event.
use Rattle.std.specs.Prelude.{◌≡◌, ℕ, ◌+◌, true, ⊤, List, [], length, slice_get, Option, Some, None, option_to_list}
use Rattle.dn_base.specs.declared.ids.Grant.{Grant}
use Rattle.rv_core.specs.declared.ending.TaskEnd.{TaskEnd}
use Rattle.message_net.specs.declared.actor.Actor.{Actor}
use Rattle.message_net.specs.declared.actor.Actor.TheVariants.{Core, Bank, Keeper}
use Rattle.message_net.specs.declared.event.Event.{Event}
use Rattle.message_net.specs.declared.event.Event.TheVariants.{Instr, Evict, Arrive, Handle}
use Rattle.message_net.specs.declared.event.EventKind.{EventKind}
use Rattle.message_net.specs.declared.message.Outgoing.{Outgoing}
use Rattle.message_net.specs.Kind.{kind_of, own_kind}
use Rattle.message_net.specs.Mail.{has_actor}
use Rattle.registry_bank.specs.Bank.{BankParts, bank_gets}
use Rattle.phase_barrier.specs.declared.keeper.Verdict.{Verdict}
use Rattle.phase_barrier.specs.Barrier.{Barrier, keeper_gets}
use Rattle.phase_barrier.specs.Letters.{letters}
use Rattle.registration_protocol.specs.declared.node.Received.{Received}
use Rattle.registration_protocol.specs.declared.node.Step.{Step}
use Rattle.registration_protocol.specs.Node.{NodeParts, Setting}
use Rattle.registration_protocol.specs.OwnEvents.{own_event, instructed, evicted, arrives, end_of}
use Rattle.registration_protocol.specs.Messages.{node_gets}
use Rattle.machine_rules.specs.State.{State}
use Rattle.machine_rules.specs.Next.{next_number}
use Rattle.grant_log.specs.declared.posted.Posted.{Posted}

-- what an actor is; a machine may lack it
pub data ActorParts : Type 0 where
  NodeIs : NodeParts → ActorParts
  BankIs : BankParts → ActorParts
  KeeperIs : Barrier → ActorParts
  Missing : ActorParts

-- an actor with the number of its next mail
pub record Member : Type 0 where
  pub parts : ActorParts
  pub next : ℕ

abbrev pub node_there : Option NodeParts → ActorParts
node_there None = Missing
node_there (Some n) = NodeIs n

abbrev pub bank_there : Option BankParts → ActorParts
bank_there None = Missing
bank_there (Some b) = BankIs b

abbrev pub parts_of : State → Actor → ActorParts
parts_of S (Core core) = node_there (slice_get S.nodes core.0)
parts_of S (Bank bank) = bank_there (slice_get S.banks bank.0)
parts_of S Keeper = KeeperIs S.keeper

-- an actor in a state of the machine
unfoldable pub member : State → Actor → Member
member S a = record { parts = parts_of S a; next = next_number S a }

-- the machine of a setting has this actor
abbrev pub IsIn : Setting → Actor → Type 0
IsIn C a = has_actor C.shape.cores C.shape.banks a ≡ true

-- what an actor does in one event: it handles a mail, or makes an event of its own
pub data Deed : Type 0 where
  Handles : Posted → Deed
  Makes : Event → Deed

abbrev pub event_of : Deed → Event
event_of (Handles p) = Handle p.mail.id
event_of (Makes e) = e

abbrev pub deed_kind : Deed → EventKind
deed_kind (Handles p) = kind_of p.mail.message
deed_kind (Makes e) = own_kind e

-- the result of a deed: the actor after it, what it sends, the lock that was granted to it, and how the task of a core that
-- arrived has ended
pub record Came : Type 0 where
  pub parts : ActorParts
  pub sent : List Outgoing
  pub granted : Option Grant
  pub end : Option TaskEnd

abbrev pub node_got : NodeParts × Received → Came
node_got row = record { parts = NodeIs row.0; sent = option_to_list row.1.sent; granted = row.1.granted; end = None }

abbrev pub node_ran : NodeParts × Step → Came
node_ran row = record { parts = NodeIs row.0; sent = option_to_list row.1.sent; granted = None; end = None }

abbrev pub node_sent : Option TaskEnd → NodeParts × Option Outgoing → Came
node_sent end row = record { parts = NodeIs row.0; sent = option_to_list row.1; granted = None; end = end }

abbrev pub bank_got : BankParts × Option Outgoing → Came
bank_got row = record { parts = BankIs row.0; sent = option_to_list row.1; granted = None; end = None }

abbrev pub keeper_got : ℕ → Barrier × Verdict → Came
keeper_got cores row = record { parts = KeeperIs row.0; sent = letters cores row.1; granted = None; end = None }

abbrev pub unmoved : ActorParts → Came
unmoved x = record { parts = x; sent = []; granted = None; end = None }

unfoldable pub comes_of : Setting → ActorParts → Deed → Came
comes_of C (NodeIs n) (Handles p) = node_got (node_gets C n p.mail.message)
comes_of C (NodeIs n) (Makes (Instr core)) = node_ran (instructed C n)
comes_of C (NodeIs n) (Makes (Evict core word)) = node_sent None (evicted C n word)
comes_of C (NodeIs n) (Makes (Arrive core)) = node_sent (end_of n n.task) (arrives n)
comes_of C (BankIs b) (Handles p) = bank_got (bank_gets b p.mail.message)
comes_of C (KeeperIs k) (Handles p) = keeper_got C.shape.cores (keeper_gets k p.mail.message)
comes_of C x deed = unmoved x

-- the actor after a deed: each mail that it sends has a number of its own
abbrev pub after_deed : Setting → Member → Deed → Member
after_deed C x deed = record { parts = (comes_of C x.parts deed).parts; next = x.next + length (comes_of C x.parts deed).sent }

-- an actor may do this: a node makes its own event and no other, and whatever mail comes is handled
abbrev pub MayDo : Setting → ActorParts → Deed → Type 0
MayDo C (NodeIs n) (Makes e) = own_event C n ≡ Some e
MayDo C x (Makes e) = ⊥
MayDo C x (Handles p) = ⊤
