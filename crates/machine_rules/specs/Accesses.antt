-- The actions of a run: the loads, stores, acquires and releases that its tasks retire, and how its cores meet at the barrier, in
-- their order. `action_in` says which event of the machine is which action.
use Rattle.std.specs.Prelude.{ℕ, false, List, slice_get, Option, Some, None}
use Rattle.dn_base.specs.declared.ids.CoreId.{CoreId}
use Rattle.dn_base.specs.declared.ids.WordId.{WordId}
use Rattle.dn_base.specs.declared.ids.Grant.{Grant as Granted}
use Rattle.dn_base.specs.declared.ids.LoadSeen.{LoadSeen}
use Rattle.rv_core.specs.declared.need.Need as need
use Rattle.rv_core.specs.declared.need.Need.{Need}
use Rattle.message_net.specs.declared.actor.Actor.{Actor}
use Rattle.message_net.specs.declared.actor.Actor.TheVariants.{Core}
use Rattle.message_net.specs.declared.event.Event.{Event}
use Rattle.message_net.specs.declared.event.Event.TheVariants.{Instr, Evict, Arrive, Handle}
use Rattle.message_net.specs.declared.message.Mail.{Mail}
use Rattle.message_net.specs.declared.message.Message.{Message}
use Rattle.message_net.specs.declared.message.Message.TheVariants.{Grant, Go}
use Rattle.message_net.specs.Pool.{removed}
use Rattle.registration_protocol.specs.declared.node.Received.{Received}
use Rattle.registration_protocol.specs.Node.{NodeParts, Setting, entry_of, need_now}
use Rattle.registration_protocol.specs.Messages.{node_gets}
use Rattle.registration_protocol.specs.Parts.{held_locks, retired_so_far}
use Rattle.machine_rules.specs.State.{State}
use Rattle.machine_rules.specs.Next.{seen_in}
use Rattle.machine_rules.specs.Memory.{value_in_entry, store_in}
use Rattle.machine_rules.specs.Runs.{read_off}
use Rattle.machine_rules.specs.Actions.{Access, Action, accesses, acquires, releases, arrives, starts}

-- the access of a word by the next instruction of a core's node
abbrev pub access_by : CoreId → NodeParts → WordId → Option ℕ → Option ℕ → Access
access_by core n word read written =
    record { phase = n.phase; core = core.0; place = retired_so_far n.task; held = held_locks n.task; word = word.0; read = read; written = written }

-- the value of which the next instruction keeps a part, if it is a store of a part of a word
abbrev pub kept_by : NodeParts → Option Need → Option ℕ
kept_by n (Some (need.TheVariants.Store word false)) = Some (value_in_entry (entry_of n word.0))
kept_by n _ = None

-- the access, by what the instruction has loaded or stored
abbrev pub accessed_by : Setting → CoreId → NodeParts → Option LoadSeen → Option (WordId × ℕ) → Option Access
accessed_by C core n (Some seen) store = Some (access_by core n seen.word (Some seen.value) None)
accessed_by C core n None (Some (word, value)) = Some (access_by core n word (kept_by n (need_now C n)) (Some value))
accessed_by C core n None None = None

abbrev pub access_at : State → CoreId → Option NodeParts → Option Access
access_at S core None = None
access_at S core (Some n) = accessed_by S.setting core n (seen_in S (Instr core)) (store_in S (Instr core))

-- the access that retires by an event, if one does
unfoldable pub access_in : State → Event → Option Access
access_in S (Instr core) = access_at S core (slice_get S.nodes core.0)
access_in S _ = None

-- the release of a lock by the next instruction, if it is one
abbrev pub release_by : CoreId → NodeParts → Option Need → Option Action
release_by core n (Some (need.TheVariants.Release lock)) =
    Some (releases (record { phase = n.phase; core = core.0; place = retired_so_far n.task; lock = lock.0 }))
release_by core n _ = None

abbrev pub release_at : Setting → CoreId → Option NodeParts → Option Action
release_at C core None = None
release_at C core (Some n) = release_by core n (need_now C n)

-- the arrival of a core at the barrier
abbrev pub arrival_at : CoreId → Option NodeParts → Option Action
arrival_at core None = None
arrival_at core (Some n) = Some (arrives (record { phase = n.phase; core = core.0 }))

-- the acquire by a task that is granted its lock
abbrev pub acquire_by : CoreId → NodeParts → Option Granted → Option Action
acquire_by core n None = None
acquire_by core n (Some g) = Some (acquires (record { phase = n.phase; core = core.0; place = retired_so_far n.task; lock = g.lock.0 }))

-- what a core does as it handles a message: it takes the lock that it is granted, or it starts the phase in which it is then
abbrev pub synchronizes_by : CoreId → NodeParts → Message → NodeParts × Received → Option Action
synchronizes_by core n (Grant lock signature) after = acquire_by core n after.1.granted
synchronizes_by core n (Go phase) after = Some (starts (record { phase = after.0.phase; core = core.0 }))
synchronizes_by core n _ after = None

abbrev pub synchronizes_at : Setting → CoreId → Message → Option NodeParts → Option Action
synchronizes_at C core message None = None
synchronizes_at C core message (Some n) = synchronizes_by core n message (node_gets C n message)

abbrev pub synchronizes_to : State → Actor → Message → Option Action
synchronizes_to S (Core core) message = synchronizes_at S.setting core message (slice_get S.nodes core.0)
synchronizes_to S _ message = None

abbrev pub synchronizes_with : State → Option Mail → Option Action
synchronizes_with S None = None
synchronizes_with S (Some m) = synchronizes_to S m.to m.message

-- what orders the accesses: an acquire as its grant is taken, a release, an arrival, and the start of a phase
unfoldable pub synchronization_in : State → Event → Option Action
synchronization_in S (Instr core) = release_at S.setting core (slice_get S.nodes core.0)
synchronization_in S (Evict core word) = None
synchronization_in S (Arrive core) = arrival_at core (slice_get S.nodes core.0)
synchronization_in S (Handle id) = synchronizes_with S (removed id S.mails).0

-- the action that an event is, if it is one
abbrev pub action_by : Option Action → Option Access → Option Action
action_by (Some synchronization) access = Some synchronization
action_by None (Some a) = Some (accesses a)
action_by None None = None

abbrev pub action_in : State → Event → Option Action
action_in S e = action_by (synchronization_in S e) (access_in S e)

-- the actions of a run, in the order in which they retire
abbrev pub actions_of : State → List Event → List Action
actions_of S events = read_off action_in S events
