-- How an event changes the departures and how locks were granted, by the entry or the lock that it is about. `departures_after`
-- and `handings_after` give the same.
use Rattle.std.specs.Prelude.{ℕ, Bool, false, ◌&&◌, ◌==◌, not, nat_lt, ◌+◌, List, [], ◌∷◌, length, slice_get, slice_set, Option, Some, None, if◌then◌else◌}
use Rattle.std.specs.List.{fold}
use Rattle.dn_base.specs.declared.ids.CoreId.{CoreId}
use Rattle.dn_base.specs.declared.ids.WordId.{WordId}
use Rattle.dn_base.specs.declared.ids.LockId.{LockId}
use Rattle.dn_base.specs.declared.ids.Grant.{Grant as Granted}
use Rattle.region_table.specs.declared.interval.Interval.{Interval}
use Rattle.message_net.specs.declared.message.Message.{Message}
use Rattle.message_net.specs.declared.message.Message.TheVariants as message
use Rattle.queue_lock.specs.Lock.{Lock, is_core}
use Rattle.registry_bank.specs.Bank.{BankParts, bank_lock}
use Rattle.word_cache.specs.declared.row.Entry.{Entry}
use Rattle.word_cache.specs.declared.row.Entry.TheVariants.{Valid, Registered, Leaving}
use Rattle.write_signature.specs.declared.signature.Signature.{Signature}
use Rattle.std.specs.Option.{is_some}
use Rattle.rv_core.specs.declared.task.TaskState.{TaskState}
use Rattle.registration_protocol.specs.declared.node.NodeWait.{NodeWait}
use Rattle.registration_protocol.specs.declared.node.NodeWait.TheVariants as wait
use Rattle.registration_protocol.specs.Node.{NodeParts, Setting, entry_of}
use Rattle.registration_protocol.specs.Messages.{node_gets, written_in, guarded_by}
use Rattle.run_account.specs.declared.departure.Departure.TheVariants as why
use Rattle.run_account.specs.declared.departure.Handing.{Handing}
use Rattle.run_account.specs.declared.departure.Handing.TheVariants.{AtOnce, Queued}
use Rattle.run_account.specs.declared.departure.Occasion.{Occasion}
use Rattle.run_account.specs.declared.departure.Occasion.TheVariants.{Go, Grant}
use Rattle.run_account.specs.Departures.{Departures, departed}
use Rattle.run_account.specs.Handings.{Handings}
use Rattle.run_account.specs.Copies.{gone_pair}

-- an eviction of a copy
abbrev pub evict_departs : Departures → NodeParts → WordId → Option Entry → Departures
evict_departs D n word (Some (Valid value marked)) = departed D n.core word.0 why.Evicted
evict_departs D n word _ = D

-- a RegFwd and a WbAck
abbrev pub taken_departs : Departures → NodeParts → WordId → Option Entry → Departures
taken_departs D n word (Some (Registered value false)) = departed D n.core word.0 why.Taken
taken_departs D n word _ = D

abbrev pub given_departs : Departures → NodeParts → WordId → Option Entry → Departures
given_departs D n word (Some (Leaving value)) = departed D n.core word.0 why.Evicted
given_departs D n word _ = D

-- the copies that are dropped at a Go that begins a phase, and at a Grant for which the core waits
abbrev pub copies_depart : NodeParts → Occasion → List Interval → Departures → Departures
copies_depart n o words D = fold (gone_pair n o words) D n.cache.pairs

abbrev pub phase_departs : Setting → Departures → NodeParts → NodeParts → Departures
phase_departs C D n after = if after.phase == n.phase then D else copies_depart n Go (written_in (slice_get C.plans n.phase)) D

abbrev pub lock_departs : Setting → Departures → NodeParts → Signature → Option Granted → Departures
lock_departs C D n signature None = D
lock_departs C D n signature (Some granted) = copies_depart n (Grant signature) (guarded_by (slice_get C.plans n.phase) granted.lock.0) D

-- whether a phase begins at a Go, and whether the core waits for the lock of a Grant
abbrev pub begins_now : Setting → NodeParts → ℕ → Bool
begins_now C n phase = n.arrived && not n.halted && (phase == n.phase + 1) && nat_lt phase (length C.program.phases)

abbrev pub waits_now : LockId → NodeWait → Option TaskState → Bool
waits_now lock (wait.Locking wanted) task = (wanted.0 == lock.0) && is_some task
waits_now lock _ task = false

abbrev pub message_departs : Setting → Departures → NodeParts → Message → Departures
message_departs C D n (message.RegFwd word core) = taken_departs D n word (entry_of n word.0)
message_departs C D n (message.WbAck word) = given_departs D n word (entry_of n word.0)
message_departs C D n (message.Go phase) = phase_departs C D n (node_gets C n (message.Go phase)).0
message_departs C D n (message.Grant lock signature) = lock_departs C D n signature (node_gets C n (message.Grant lock signature)).1.granted
message_departs C D n _ = D

-- whether a lock is granted at an Acquire, by its holder, and at a Release, by its holder and its queue
abbrev pub free_hands : Option CoreId → Option Handing
free_hands None = Some AtOnce
free_hands (Some holder) = None

abbrev pub next_hands : List CoreId → Option Handing
next_hands [] = None
next_hands (core ∷ cores) = Some Queued

abbrev pub holder_hands : CoreId → Option CoreId → List CoreId → Option Handing
holder_hands core None queue = None
holder_hands core (Some holder) queue = if is_core core.0 holder then next_hands queue else None

abbrev pub acquire_hands : Option Lock → Option Handing
acquire_hands None = None
acquire_hands (Some h) = free_hands h.holder

abbrev pub release_hands : CoreId → Option Lock → Option Handing
release_hands core None = None
release_hands core (Some h) = holder_hands core h.holder h.queue

-- a message that names a core has an effect only if the machine has that core
abbrev pub hands_if : BankParts → CoreId → Option Handing → Option Handing
hands_if b core how = if nat_lt core.0 b.cores then how else None

abbrev pub with_handing : Handings → LockId → Option Handing → Handings
with_handing H lock None = H
with_handing H lock (Some how) = slice_set H lock.0 how

abbrev pub message_hands : BankParts → Handings → Message → Handings
message_hands b H (message.Acquire lock core) = with_handing H lock (hands_if b core (acquire_hands (bank_lock b lock.0)))
message_hands b H (message.Release lock core signature) = with_handing H lock (hands_if b core (release_hands core (bank_lock b lock.0)))
message_hands b H _ = H
