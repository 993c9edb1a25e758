-- Which events may come in a state, and the state after one of them.
use Rattle.std.specs.Prelude.{ℕ, ◌+◌, Bool, false, nat_lt, List, length, slice_get, slice_set, slice_index, Option, Some, None}
use Rattle.dn_base.specs.declared.ids.CoreId.{CoreId}
use Rattle.dn_base.specs.declared.ids.WordId.{WordId}
use Rattle.dn_base.specs.declared.ids.Grant.{Grant as Granted}
use Rattle.dn_base.specs.declared.ids.LoadSeen.{LoadSeen}
use Rattle.message_net.specs.declared.actor.Actor.{Actor}
use Rattle.message_net.specs.declared.actor.Actor.TheVariants.{Core, Bank, Keeper}
use Rattle.message_net.specs.declared.event.Event.{Event}
use Rattle.message_net.specs.declared.event.Event.TheVariants.{Instr, Evict, Arrive, Handle}
use Rattle.message_net.specs.declared.event.EventKind as kind
use Rattle.message_net.specs.declared.event.EventKind.{EventKind}
use Rattle.message_net.specs.declared.message.Mail.{Mail}
use Rattle.message_net.specs.declared.message.Message.{Message}
use Rattle.message_net.specs.declared.message.Outgoing.{Outgoing}
use Rattle.message_net.specs.Kind.{kind_of}
use Rattle.message_net.specs.Pool.{count_of, removed}
use Rattle.message_net.specs.Mail.{actor_index, mails_with, all_mails}
use Rattle.registry_bank.specs.Bank.{BankParts, bank_gets}
use Rattle.phase_barrier.specs.declared.keeper.Verdict.{Verdict}
use Rattle.phase_barrier.specs.Barrier.{Barrier, keeper_gets}
use Rattle.phase_barrier.specs.Letters.{letters}
use Rattle.registration_protocol.specs.Node.{NodeParts, Setting}
use Rattle.registration_protocol.specs.OwnEvents.{may_instr, may_evict, may_arrive, instructed, evicted, arrives}
use Rattle.registration_protocol.specs.Messages.{node_gets}
use Rattle.machine_rules.specs.State.{State}
use Rattle.machine_rules.specs.declared.stepped.Stepped.{Stepped}

-- the index of an actor among the actors, and the number of its next mail
abbrev pub actor_index_in : State → Actor → ℕ
actor_index_in S actor = actor_index S.setting.shape.cores S.setting.shape.banks actor

abbrev pub next_number : State → Actor → ℕ
next_number S actor = slice_index S.numbers (actor_index_in S actor)

-- an actor that sends something has one more number used
abbrev pub numbers_with : ℕ → Option Outgoing → List ℕ → List ℕ
numbers_with place None numbers = numbers
numbers_with place (Some out) numbers = slice_set numbers place (slice_index numbers place + 1)

-- what an actor sends is in flight, with the actor's next number
abbrev pub sends : State → Actor → Option Outgoing → State
sends S from sent =
    record S { mails = mails_with from (next_number S from) sent S.mails; numbers = numbers_with (actor_index_in S from) sent S.numbers }

-- the letters of the keeper are in flight, with its next numbers in their order
abbrev pub posts : State → List Outgoing → State
posts S sent =
    record S { mails = all_mails Keeper (next_number S Keeper) sent S.mails; numbers = slice_set S.numbers (actor_index_in S Keeper) (next_number S Keeper + length sent) }

-- a core's node becomes another one, or a bank does, and what it sends is in flight
abbrev pub core_does : State → CoreId → NodeParts → Option Outgoing → State
core_does S core n sent = sends (record S { nodes = slice_set S.nodes core.0 n }) (Core core) sent

abbrev pub bank_does : State → ℕ → BankParts → Option Outgoing → Actor → State
bank_does S bank b sent from = sends (record S { banks = slice_set S.banks bank b }) from sent

-- a core's own events, if the core exists
abbrev pub does_instr : State → CoreId → Option NodeParts → State
does_instr S core None = S
does_instr S core (Some n) = core_does S core (instructed S.setting n).0 (instructed S.setting n).1.sent

abbrev pub does_evict : State → CoreId → WordId → Option NodeParts → State
does_evict S core word None = S
does_evict S core word (Some n) = core_does S core (evicted S.setting n word).0 (evicted S.setting n word).1

abbrev pub does_arrive : State → CoreId → Option NodeParts → State
does_arrive S core None = S
does_arrive S core (Some n) = core_does S core (arrives n).0 (arrives n).1

-- a core, a bank and the keeper handle a message
abbrev pub core_gets : State → CoreId → Message → Option NodeParts → State
core_gets S core message None = S
core_gets S core message (Some n) = core_does S core (node_gets S.setting n message).0 (node_gets S.setting n message).1.sent

abbrev pub bank_handles : State → Actor → ℕ → Message → Option BankParts → State
bank_handles S from bank message None = S
bank_handles S from bank message (Some b) = bank_does S bank (bank_gets b message).0 (bank_gets b message).1 from

abbrev pub keeper_handles : State → Barrier × Verdict → State
keeper_handles S answer = posts (record S { keeper = answer.0 }) (letters S.setting.shape.cores answer.1)

abbrev pub gets : State → Actor → Message → State
gets S (Core core) message = core_gets S core message (slice_get S.nodes core.0)
gets S (Bank bank) message = bank_handles S (Bank bank) bank.0 message (slice_get S.banks bank.0)
gets S Keeper message = keeper_handles S (keeper_gets S.keeper message)

-- a mail that has been removed from those in flight is handled by its receiver
abbrev pub delivers : State → Option Mail → State
delivers S None = S
delivers S (Some m) = gets S m.to m.message

abbrev pub handles : State → Option Mail × List Mail → State
handles S took = delivers (record S { mails = took.1 }) took.0

-- the state after an event
unfoldable pub next : State → Event → State
next S (Instr core) = does_instr S core (slice_get S.nodes core.0)
next S (Evict core word) = does_evict S core word (slice_get S.nodes core.0)
next S (Arrive core) = does_arrive S core (slice_get S.nodes core.0)
next S (Handle id) = handles S (removed id S.mails)

-- whether a node that exists passes a test
abbrev pub when_there : (NodeParts → Bool) → Option NodeParts → Bool
when_there test None = false
when_there test (Some n) = test n

-- whether an event may come
unfoldable pub enabled : State → Event → Bool
enabled S (Instr core) = when_there (may_instr S.setting) (slice_get S.nodes core.0)
enabled S (Evict core word) = when_there (λ n. may_evict S.setting n word.0) (slice_get S.nodes core.0)
enabled S (Arrive core) = when_there may_arrive (slice_get S.nodes core.0)
enabled S (Handle id) = nat_lt 0 (count_of id S.mails)

-- the load that an event completes, if it completes one
abbrev pub load_completed : Setting → Option NodeParts → Option LoadSeen
load_completed C None = None
load_completed C (Some n) = (instructed C n).1.seen

unfoldable pub seen_in : State → Event → Option LoadSeen
seen_in S (Instr core) = load_completed S.setting (slice_get S.nodes core.0)
seen_in S _ = None

-- the lock that an event grants, if it grants one
abbrev pub granted_by : Setting → Message → Option NodeParts → Option Granted
granted_by C message None = None
granted_by C message (Some n) = (node_gets C n message).1.granted

abbrev pub grant_of_mail : State → Actor → Message → Option Granted
grant_of_mail S (Core core) message = granted_by S.setting message (slice_get S.nodes core.0)
grant_of_mail S _ message = None

abbrev pub granted_with : State → Option Mail → Option Granted
granted_with S None = None
granted_with S (Some m) = grant_of_mail S m.to m.message

unfoldable pub granted_in : State → Event → Option Granted
granted_in S (Handle id) = granted_with S (removed id S.mails).0
granted_in S _ = None

-- the kind of an event; for the handling of a mail it is the kind of the message
abbrev pub kind_with : Option Mail → EventKind
kind_with None = kind.TheVariants.Instr
kind_with (Some m) = kind_of m.message

unfoldable pub kind_in : State → Event → EventKind
kind_in S (Instr core) = kind.TheVariants.Instr
kind_in S (Evict core word) = kind.TheVariants.Evict
kind_in S (Arrive core) = kind.TheVariants.Arrive
kind_in S (Handle id) = kind_with (removed id S.mails).0

-- what an event tells: its kind, the load that it completes, and the lock that it grants
abbrev pub observed : State → Event → Stepped
observed S e = record { kind = kind_in S e; seen = seen_in S e; granted = granted_in S e }
