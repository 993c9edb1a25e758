-- What an event leaves of a node.
use Rattle.std.proofs.Common.{◌≡◌, ℕ, ◌==◌, Bool, true, false, cond, List, Option, Some, None, refl}
use Rattle.dn_base.specs.declared.ids.CoreId.{CoreId}
use Rattle.dn_base.specs.declared.ids.LockId.{LockId}
use Rattle.dn_base.specs.declared.ids.WordId.{WordId}
use Rattle.region_table.specs.declared.declared.TaskDecl.{TaskDecl}
use Rattle.region_table.specs.Tasks.{declared}
use Rattle.rv_core.specs.declared.task.TaskState.{TaskState}
use Rattle.rv_core.specs.declared.need.Need as need
use Rattle.rv_core.specs.declared.need.Need.{Need}
use Rattle.write_signature.specs.declared.signature.Signature.{Signature}
use Rattle.message_net.specs.declared.message.Message as message
use Rattle.message_net.specs.declared.message.Message.{Message}
use Rattle.word_cache.specs.declared.row.Entry.{Entry}
use Rattle.word_cache.specs.declared.row.Entry.TheVariants.{Valid, Registered, Leaving}
use Rattle.word_cache.specs.Cache.{Pair, has_room}
use Rattle.registration_protocol.specs.declared.node.NodeWait as wait
use Rattle.registration_protocol.specs.declared.node.NodeWait.{NodeWait}
use Rattle.registration_protocol.specs.declared.node.Received.{Received}
use Rattle.registration_protocol.specs.Node.{NodeParts, Setting, need_now, entry_of, keeping}
use Rattle.registration_protocol.specs.OwnEvents.{load_row, store_row, instr_row, instr_by, instructed, evicts, evicted}
use Rattle.registration_protocol.specs.Messages.{node_gets, fills, data_reply_row, reg_ack_row, reg_fwd_row, read_fwd_row, wb_ack_row, granted_to, grant_row}
use Rattle.registration_protocol.specs.Changes.{is_from_keeper, KeepsPhase, KeepsTask}

same : (n : NodeParts) → KeepsPhase n n
same n = record { core = refl; phase = refl; arrived = refl; halted = refl }

all_same : (n : NodeParts) → KeepsTask n n
all_same n = record { phase_kept = same n; task = refl; waiting = refl; signatures = refl; sets = refl; ways = refl }

pub pairs_alone : (n : NodeParts) (ps : List Pair) → KeepsTask n (keeping n ps)
pairs_alone n ps = record { phase_kept = record { core = refl; phase = refl; arrived = refl; halted = refl }; task = refl; waiting = refl; signatures = refl; sets = refl; ways = refl }

-- ---- own events

load_phase : (C : Setting) (n : NodeParts) (d : TaskDecl) (t : TaskState) (word : WordId) (e : Option Entry) → KeepsPhase n (load_row C n d t word e).0
load_phase C n d t word None = record { core = refl; phase = refl; arrived = refl; halted = refl }
load_phase C n d t word (Some (Valid value marked)) = record { core = refl; phase = refl; arrived = refl; halted = refl }
load_phase C n d t word (Some (Registered value pending)) = record { core = refl; phase = refl; arrived = refl; halted = refl }
load_phase C n d t word (Some (Leaving value)) = same n

store_phase : (C : Setting) (n : NodeParts) (d : TaskDecl) (t : TaskState) (word : WordId) (whole : Bool) (e : Option Entry) → KeepsPhase n (store_row C n d t word whole e).0
store_phase C n d t word true None = record { core = refl; phase = refl; arrived = refl; halted = refl }
store_phase C n d t word false None = record { core = refl; phase = refl; arrived = refl; halted = refl }
store_phase C n d t word whole (Some (Valid value marked)) = record { core = refl; phase = refl; arrived = refl; halted = refl }
store_phase C n d t word whole (Some (Registered value pending)) = record { core = refl; phase = refl; arrived = refl; halted = refl }
store_phase C n d t word whole (Some (Leaving value)) = same n

row_phase : (C : Setting) (n : NodeParts) (d : TaskDecl) (t : TaskState) (x : Need) → KeepsPhase n (instr_row C n d t x).0
row_phase C n d t need.TheVariants.Local = record { core = refl; phase = refl; arrived = refl; halted = refl }
row_phase C n d t (need.TheVariants.End by) = record { core = refl; phase = refl; arrived = refl; halted = refl }
row_phase C n d t (need.TheVariants.Load word) = load_phase C n d t word (entry_of n word.0)
row_phase C n d t (need.TheVariants.Store word whole) = store_phase C n d t word whole (entry_of n word.0)
row_phase C n d t (need.TheVariants.Acquire lock) = record { core = refl; phase = refl; arrived = refl; halted = refl }
row_phase C n d t (need.TheVariants.Release lock) = record { core = refl; phase = refl; arrived = refl; halted = refl }

instr_phase : (C : Setting) (n : NodeParts) (o : Option TaskDecl) (p : Option TaskState) (x : Option Need) → KeepsPhase n (instr_by C n o p x).0
instr_phase C n None p x = same n
instr_phase C n (Some d) None x = same n
instr_phase C n (Some d) (Some t) None = same n
instr_phase C n (Some d) (Some t) (Some x) = row_phase C n d t x

pub instr-phase : (C : Setting) (n : NodeParts) → KeepsPhase n (instructed C n).0
unfolding instructed
instr-phase C n = instr_phase C n (declared C.program n.phase n.core) n.task (need_now C n)

evict_keeps : (C : Setting) (n : NodeParts) (word : WordId) (e : Option Entry) → KeepsTask n (evicts C n word e).0
evict_keeps C n word None = all_same n
evict_keeps C n word (Some (Valid value marked)) = pairs_alone n _
evict_keeps C n word (Some (Registered value true)) = all_same n
evict_keeps C n word (Some (Registered value false)) = pairs_alone n _
evict_keeps C n word (Some (Leaving value)) = all_same n

pub evict-keeps : (C : Setting) (n : NodeParts) (word : WordId) → KeepsTask n (evicted C n word).0
evict-keeps C n word = evict_keeps C n word (entry_of n word.0)

-- ---- messages that change entries alone

pub ack-keeps : (n : NodeParts) (word : WordId) (e : Option Entry) → KeepsTask n (reg_ack_row n word e).0
ack-keeps n word None = all_same n
ack-keeps n word (Some (Valid value marked)) = all_same n
ack-keeps n word (Some (Registered value true)) = pairs_alone n _
ack-keeps n word (Some (Registered value false)) = all_same n
ack-keeps n word (Some (Leaving value)) = all_same n

pub forward-keeps : (n : NodeParts) (word : WordId) (core : CoreId) (e : Option Entry) → KeepsTask n (reg_fwd_row n word core e).0
forward-keeps n word core None = all_same n
forward-keeps n word core (Some (Valid value marked)) = all_same n
forward-keeps n word core (Some (Registered value true)) = all_same n
forward-keeps n word core (Some (Registered value false)) = pairs_alone n _
forward-keeps n word core (Some (Leaving value)) = all_same n

pub read-keeps : (C : Setting) (n : NodeParts) (word : WordId) (reader : CoreId) (e : Option Entry) → KeepsTask n (read_fwd_row C n word reader e).0
read-keeps C n word reader None = all_same n
read-keeps C n word reader (Some (Valid value marked)) = all_same n
read-keeps C n word reader (Some (Registered value pending)) = all_same n
read-keeps C n word reader (Some (Leaving value)) = all_same n

pub gone-keeps : (n : NodeParts) (word : WordId) (e : Option Entry) → KeepsTask n (wb_ack_row n word e).0
gone-keeps n word None = all_same n
gone-keeps n word (Some (Valid value marked)) = all_same n
gone-keeps n word (Some (Registered value pending)) = all_same n
gone-keeps n word (Some (Leaving value)) = pairs_alone n _

-- ---- the phase and the flags of a node at a message that is not the keeper's

either_phase : (n : NodeParts) (b : Bool) (x y : NodeParts × Received) → KeepsPhase n x.0 → KeepsPhase n y.0 → KeepsPhase n (cond b x y).0
either_phase n true x y p q = p
either_phase n false x y p q = q

fill_phase : (n : NodeParts) (word : WordId) (value : ℕ) (e : Option Entry) → KeepsPhase n (fills n word value e).0
fill_phase n word value None = either_phase n (has_room n.cache word.0) _ _ (record { core = refl; phase = refl; arrived = refl; halted = refl }) (same n)
fill_phase n word value (Some e) = same n

data_phase : (n : NodeParts) (word : WordId) (value : ℕ) (w : NodeWait) → KeepsPhase n (data_reply_row n word value w).0
data_phase n word value wait.TheVariants.None = same n
data_phase n word value (wait.TheVariants.Reading wanted) = either_phase n (wanted.0 == word.0) _ _ (fill_phase n word value (entry_of n word.0)) (same n)
data_phase n word value (wait.TheVariants.Filled wanted) = same n
data_phase n word value (wait.TheVariants.Locking lock) = same n

granted_phase : (C : Setting) (n : NodeParts) (lock : LockId) (signature : Signature) (o : Option TaskState) → KeepsPhase n (granted_to C n lock signature o).0
granted_phase C n lock signature None = same n
granted_phase C n lock signature (Some t) = record { core = refl; phase = refl; arrived = refl; halted = refl }

grant_phase : (C : Setting) (n : NodeParts) (lock : LockId) (signature : Signature) (w : NodeWait) → KeepsPhase n (grant_row C n lock signature w).0
grant_phase C n lock signature wait.TheVariants.None = same n
grant_phase C n lock signature (wait.TheVariants.Reading word) = same n
grant_phase C n lock signature (wait.TheVariants.Filled word) = same n
grant_phase C n lock signature (wait.TheVariants.Locking wanted) = either_phase n (wanted.0 == lock.0) _ _ (granted_phase C n lock signature n.task) (same n)

pub gets-phase : (C : Setting) (n : NodeParts) (m : Message) → is_from_keeper m ≡ false → KeepsPhase n (node_gets C n m).0
unfolding node_gets
gets-phase C n (message.TheVariants.DataReply word value) other = data_phase n word value n.waiting
gets-phase C n (message.TheVariants.RegAck word) other = (ack-keeps n word (entry_of n word.0)).phase_kept
gets-phase C n (message.TheVariants.RegFwd word core) other = (forward-keeps n word core (entry_of n word.0)).phase_kept
gets-phase C n (message.TheVariants.ReadFwd word reader) other = (read-keeps C n word reader (entry_of n word.0)).phase_kept
gets-phase C n (message.TheVariants.WbAck word) other = (gone-keeps n word (entry_of n word.0)).phase_kept
gets-phase C n (message.TheVariants.Grant lock signature) other = grant_phase C n lock signature n.waiting
gets-phase C n (message.TheVariants.Go phase) other = absurd (cc)
gets-phase C n message.TheVariants.Halt other = absurd (cc)
gets-phase C n (message.TheVariants.ReadReq word reader) other = same n
gets-phase C n (message.TheVariants.RegReq word core) other = same n
gets-phase C n (message.TheVariants.WriteBack word value core) other = same n
gets-phase C n (message.TheVariants.Acquire lock core) other = same n
gets-phase C n (message.TheVariants.Release lock core signature) other = same n
gets-phase C n (message.TheVariants.Arrived core bad) other = same n
