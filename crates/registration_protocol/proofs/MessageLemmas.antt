-- What each message makes of a node, and what it sends.
use Rattle.std.proofs.Common.{◌≡◌, ℕ, ◌+◌, ◌<◌, ◌==◌, nat_lt, Bool, true, false, cond, not, ◌&&◌, length, Option, Some, None, refl, arith}
use Rattle.std.proofs.lemmas.Bool.Decides.{nat_tests}
use Rattle.std.specs.Prelude.{slice_get}
use Rattle.std.specs.Option.{option_map}
use Rattle.dn_base.specs.declared.ids.CoreId.{CoreId}
use Rattle.dn_base.specs.declared.ids.WordId.{WordId}
use Rattle.dn_base.specs.declared.ids.LockId.{LockId}
use Rattle.dn_base.specs.declared.ids.PhaseId.{PhaseId}
use Rattle.region_table.specs.declared.declared.TaskDecl.{TaskDecl}
use Rattle.region_table.specs.Tasks.{declared}
use Rattle.rv_core.specs.declared.task.TaskState.{TaskState}
use Rattle.rv_core.specs.Task.{started}
use Rattle.write_signature.specs.declared.signature.Signature.{Signature}
use Rattle.message_net.specs.declared.message.Message as message
use Rattle.message_net.specs.declared.message.Message.{Message}
use Rattle.message_net.specs.declared.message.Message.TheVariants.{RegAck, RegFwd, ReadFwd, WbAck, DataReply, Grant, Go, Halt}
use Rattle.message_net.specs.Mail.{to_core}
use Rattle.word_cache.specs.declared.row.Entry.{Entry}
use Rattle.word_cache.specs.declared.row.Entry.TheVariants.{Valid, Registered, Leaving}
use Rattle.word_cache.specs.Cache.{IsCache, has_room, put, entry_after_phase, entry_after_grant}
use Rattle.word_cache.proofs.LookLemmas.{lookup-dropped_written, lookup-dropped_signed}
use Rattle.registration_protocol.specs.declared.node.NodeWait as wait
use Rattle.registration_protocol.specs.declared.node.NodeWait.{NodeWait}
use Rattle.registration_protocol.specs.declared.node.Received.{Received}
use Rattle.registration_protocol.specs.Node.{NodeParts, Setting, entry_of, keeping}
use Rattle.registration_protocol.specs.Messages.{node_gets, becomes, fills, data_reply_row, reg_ack_row, reg_fwd_row, read_fwd_row, wb_ack_row, guarded_by, written_in, holds_now, granted_to, grant_row, begins}
use Rattle.registration_protocol.specs.Changes.{KeepsTask, is_for_node}
use Rattle.registration_protocol.proofs.PhaseLemmas.{ack-keeps, forward-keeps, read-keeps, gone-keeps}
use Rattle.registration_protocol.specs.Parts.{retired_so_far, held_locks}

-- ---- the table, row by row

pub ack-is : (C : Setting) (n : NodeParts) (word : WordId) → node_gets C n (RegAck word) ≡ reg_ack_row n word (entry_of n word.0)
unfolding node_gets
ack-is C n word = refl

pub forward-is : (C : Setting) (n : NodeParts) (word : WordId) (core : CoreId) → node_gets C n (RegFwd word core) ≡ reg_fwd_row n word core (entry_of n word.0)
unfolding node_gets
forward-is C n word core = refl

pub read-is : (C : Setting) (n : NodeParts) (word : WordId) (reader : CoreId) → node_gets C n (ReadFwd word reader) ≡ read_fwd_row C n word reader (entry_of n word.0)
unfolding node_gets
read-is C n word reader = refl

pub back-is : (C : Setting) (n : NodeParts) (word : WordId) → node_gets C n (WbAck word) ≡ wb_ack_row n word (entry_of n word.0)
unfolding node_gets
back-is C n word = refl

-- a value that the node waits for, of a word without entry whose set has room, is a copy
pub data-is : (C : Setting) (n : NodeParts) (word : WordId) (value : ℕ) → n.waiting ≡ wait.TheVariants.Reading word → entry_of n word.0 ≡ None → has_room n.cache word.0 ≡ true
    → node_gets C n (DataReply word value) ≡ becomes (record (keeping n (put word (Valid value false) n.cache.pairs)) { waiting = wait.TheVariants.Filled word })
unfolding node_gets
data-is C n word value waits none room =
    let same : (word.0 == word.0) ≡ true = grind (arith, nat_tests) in
    rw (waits, same, none, room) refl

-- a lock that the node waits for is held
pub grant-is : (C : Setting) (n : NodeParts) (t : TaskState) (lock : LockId) (signature : Signature) → n.waiting ≡ wait.TheVariants.Locking lock → n.task ≡ Some t
    → node_gets C n (Grant lock signature) ≡ holds_now C n t lock signature
unfolding node_gets
grant-is C n t lock signature waits has =
    let same : (lock.0 == lock.0) ≡ true = grind (arith, nat_tests) in
    rw (waits, same, has) refl

chosen : (b : Bool) (x y : NodeParts × Received) → b ≡ true → cond b x y ≡ x
chosen true x y e = refl
chosen false x y e = absurd (cc)

-- the next phase begins at a node that has arrived and is not halted
pub go-is : (C : Setting) (n : NodeParts) (phase : PhaseId) → n.arrived ≡ true → n.halted ≡ false → phase.0 ≡ n.phase + 1 → phase.0 < length C.program.phases
    → node_gets C n (Go phase) ≡ becomes (begins C n phase.0)
unfolding node_gets
go-is C n phase arrived halted next within =
    let test : (n.arrived && not n.halted && (phase.0 == n.phase + 1) && nat_lt phase.0 (length C.program.phases)) ≡ true = grind (arith, nat_tests, arrived, halted, next, within) in
    chosen _ _ _ test

pub halt-is : (C : Setting) (n : NodeParts) → n.arrived ≡ true → node_gets C n Halt ≡ becomes (record n { halted = true })
unfolding node_gets
halt-is C n arrived = chosen _ _ _ arrived

-- a message of another kind changes nothing
pub other-is : (C : Setting) (n : NodeParts) (m : Message) → is_for_node m ≡ false → node_gets C n m ≡ becomes n
unfolding node_gets
other-is C n (message.TheVariants.DataReply word value) other = absurd (cc)
other-is C n (message.TheVariants.RegAck word) other = absurd (cc)
other-is C n (message.TheVariants.RegFwd word core) other = absurd (cc)
other-is C n (message.TheVariants.ReadFwd word reader) other = absurd (cc)
other-is C n (message.TheVariants.WbAck word) other = absurd (cc)
other-is C n (message.TheVariants.Grant lock signature) other = absurd (cc)
other-is C n (message.TheVariants.Go phase) other = absurd (cc)
other-is C n message.TheVariants.Halt other = absurd (cc)
other-is C n (message.TheVariants.ReadReq word reader) other = refl
other-is C n (message.TheVariants.RegReq word core) other = refl
other-is C n (message.TheVariants.WriteBack word value core) other = refl
other-is C n (message.TheVariants.Acquire lock core) other = refl
other-is C n (message.TheVariants.Release lock core signature) other = refl
other-is C n (message.TheVariants.Arrived core bad) other = refl

-- ---- what stays

pub ack-kept : (C : Setting) (n : NodeParts) (word : WordId) → KeepsTask n (node_gets C n (RegAck word)).0
unfolding node_gets
ack-kept C n word = ack-keeps n word (entry_of n word.0)

pub forward-kept : (C : Setting) (n : NodeParts) (word : WordId) (core : CoreId) → KeepsTask n (node_gets C n (RegFwd word core)).0
unfolding node_gets
forward-kept C n word core = forward-keeps n word core (entry_of n word.0)

pub read-kept : (C : Setting) (n : NodeParts) (word : WordId) (reader : CoreId) → KeepsTask n (node_gets C n (ReadFwd word reader)).0
unfolding node_gets
read-kept C n word reader = read-keeps C n word reader (entry_of n word.0)

pub back-kept : (C : Setting) (n : NodeParts) (word : WordId) → KeepsTask n (node_gets C n (WbAck word)).0
unfolding node_gets
back-kept C n word = gone-keeps n word (entry_of n word.0)

-- ---- what is sent, whatever the entries and the wait

abbrev pub nothing : Received
nothing = record { sent = None; granted = None }

ack_sends : (n : NodeParts) (word : WordId) (e : Option Entry) → (reg_ack_row n word e).1 ≡ nothing
ack_sends n word None = refl
ack_sends n word (Some (Valid value marked)) = refl
ack_sends n word (Some (Registered value true)) = refl
ack_sends n word (Some (Registered value false)) = refl
ack_sends n word (Some (Leaving value)) = refl

pub ack-sends : (C : Setting) (n : NodeParts) (word : WordId) → (node_gets C n (RegAck word)).1 ≡ nothing
unfolding node_gets
ack-sends C n word = ack_sends n word (entry_of n word.0)

forward_sends : (n : NodeParts) (word : WordId) (core : CoreId) (e : Option Entry) → (reg_fwd_row n word core e).1 ≡ record { sent = to_core core (RegAck word); granted = None }
forward_sends n word core None = refl
forward_sends n word core (Some (Valid value marked)) = refl
forward_sends n word core (Some (Registered value true)) = refl
forward_sends n word core (Some (Registered value false)) = refl
forward_sends n word core (Some (Leaving value)) = refl

pub forward-sends : (C : Setting) (n : NodeParts) (word : WordId) (core : CoreId) → (node_gets C n (RegFwd word core)).1 ≡ record { sent = to_core core (RegAck word); granted = None }
unfolding node_gets
forward-sends C n word core = forward_sends n word core (entry_of n word.0)

back_sends : (n : NodeParts) (word : WordId) (e : Option Entry) → (wb_ack_row n word e).1 ≡ nothing
back_sends n word None = refl
back_sends n word (Some (Valid value marked)) = refl
back_sends n word (Some (Registered value pending)) = refl
back_sends n word (Some (Leaving value)) = refl

pub back-sends : (C : Setting) (n : NodeParts) (word : WordId) → (node_gets C n (WbAck word)).1 ≡ nothing
unfolding node_gets
back-sends C n word = back_sends n word (entry_of n word.0)

either : (b : Bool) (x y : NodeParts × Received) (r : Received) → x.1 ≡ r → y.1 ≡ r → (cond b x y).1 ≡ r
either true x y r p q = p
either false x y r p q = q

fills_sends : (n : NodeParts) (word : WordId) (value : ℕ) (e : Option Entry) → (fills n word value e).1 ≡ nothing
fills_sends n word value None = either (has_room n.cache word.0) _ _ nothing refl refl
fills_sends n word value (Some e) = refl

data_sends : (n : NodeParts) (word : WordId) (value : ℕ) (w : NodeWait) → (data_reply_row n word value w).1 ≡ nothing
data_sends n word value wait.TheVariants.None = refl
data_sends n word value (wait.TheVariants.Reading wanted) = either (wanted.0 == word.0) _ _ nothing (fills_sends n word value (entry_of n word.0)) refl
data_sends n word value (wait.TheVariants.Filled wanted) = refl
data_sends n word value (wait.TheVariants.Locking lock) = refl

pub data-sends : (C : Setting) (n : NodeParts) (word : WordId) (value : ℕ) → (node_gets C n (DataReply word value)).1 ≡ nothing
unfolding node_gets
data-sends C n word value = data_sends n word value n.waiting

either_sent : (b : Bool) (x y : NodeParts × Received) → x.1.sent ≡ None → y.1.sent ≡ None → (cond b x y).1.sent ≡ None
either_sent true x y p q = p
either_sent false x y p q = q

granted_sends : (C : Setting) (n : NodeParts) (lock : LockId) (signature : Signature) (o : Option TaskState) → (granted_to C n lock signature o).1.sent ≡ None
granted_sends C n lock signature None = refl
granted_sends C n lock signature (Some t) = refl

grant_sends : (C : Setting) (n : NodeParts) (lock : LockId) (signature : Signature) (w : NodeWait) → (grant_row C n lock signature w).1.sent ≡ None
grant_sends C n lock signature wait.TheVariants.None = refl
grant_sends C n lock signature (wait.TheVariants.Reading word) = refl
grant_sends C n lock signature (wait.TheVariants.Filled word) = refl
grant_sends C n lock signature (wait.TheVariants.Locking wanted) = either_sent (wanted.0 == lock.0) _ _ (granted_sends C n lock signature n.task) refl

pub grant-sends : (C : Setting) (n : NodeParts) (lock : LockId) (signature : Signature) → (node_gets C n (Grant lock signature)).1.sent ≡ None
unfolding node_gets
grant-sends C n lock signature = grant_sends C n lock signature n.waiting

pub go-sends : (C : Setting) (n : NodeParts) (phase : PhaseId) → (node_gets C n (Go phase)).1 ≡ nothing
unfolding node_gets
go-sends C n phase = either _ _ _ nothing refl refl

pub halt-sends : (C : Setting) (n : NodeParts) → (node_gets C n Halt).1 ≡ nothing
unfolding node_gets
halt-sends C n = either n.arrived _ _ nothing refl refl

-- ---- the entries after a grant and as a phase begins

pub grant-entries : (C : Setting) (n : NodeParts) (t : TaskState) (lock : LockId) (signature : Signature) (w : ℕ) → IsCache n.cache
    → entry_of (holds_now C n t lock signature).0 w ≡ entry_after_grant signature n.phase (guarded_by (slice_get C.plans n.phase) lock.0) w (entry_of n w)
grant-entries C n t lock signature w is = lookup-dropped_signed signature n.phase (guarded_by (slice_get C.plans n.phase) lock.0) w n.cache.pairs is.apart

pub begin-entries : (C : Setting) (n : NodeParts) (phase w : ℕ) → IsCache n.cache
    → entry_of (begins C n phase) w ≡ entry_after_phase (written_in (slice_get C.plans n.phase)) w (entry_of n w)
begin-entries C n phase w is = lookup-dropped_written (written_in (slice_get C.plans n.phase)) w n.cache.pairs is.apart

-- a task that begins has retired nothing and holds no lock
starts_anew : (o : Option TaskDecl) → (retired_so_far (option_map started o) ≡ 0) × (held_locks (option_map started o) ≡ 0)
starts_anew None = (refl, refl)
starts_anew (Some d) = (refl, refl)

pub begin-task : (C : Setting) (n : NodeParts) (phase : ℕ) → (retired_so_far (begins C n phase).task ≡ 0) × (held_locks (begins C n phase).task ≡ 0)
begin-task C n phase = starts_anew (declared C.program phase n.core)
