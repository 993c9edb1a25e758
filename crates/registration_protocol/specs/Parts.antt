-- An instruction, part by part: how it changes the task, the wait and the signatures, and what it sends and reads.
--
-- These are columns of the rows in OwnEvents and Messages, for laws. The laws `an_instruction_part_by_part`,
-- `a_grant_part_by_part` and `a_phase_begins_part_by_part` prove that each is the column of its row.
use Rattle.std.specs.Prelude.{◌≡◌, ℕ, ◌^◌, Bool, true, false, List, Option, Some, None, if◌then◌else◌, ◌+◌, ◌<◌, length, bit_or, ◌⊎◌}
use Rattle.dn_base.specs.declared.ids.LoadSeen.{LoadSeen}
use Rattle.dn_base.specs.declared.ids.WordId.{WordId}
use Rattle.dn_base.specs.declared.ids.LockId.{LockId}
use Rattle.region_table.specs.declared.declared.TaskDecl.{TaskDecl}
use Rattle.region_table.specs.Tasks.{declared}
use Rattle.rv_core.specs.declared.task.TaskState.{TaskState}
use Rattle.rv_core.specs.declared.need.Need as need
use Rattle.rv_core.specs.declared.need.Need.{Need}
use Rattle.rv_core.specs.Need.{need_of}
use Rattle.rv_core.specs.Step.{advanced, loaded_of}
use Rattle.rv_core.specs.Task.{stopped, retires_at}
use Rattle.rv_core.specs.declared.task.End.{End}
use Rattle.rv_core.specs.Kinds.{held_after}
use Rattle.rv_core.specs.Access.{is_held}
use Rattle.write_signature.specs.declared.signature.Signature.{Signature}
use Rattle.message_net.specs.declared.message.Message.TheVariants.{ReadReq, RegReq, Acquire, Release}
use Rattle.message_net.specs.declared.message.Outgoing.{Outgoing}
use Rattle.message_net.specs.Mail.{to_home}
use Rattle.message_net.specs.declared.event.Event as event
use Rattle.message_net.specs.declared.event.Event.{Event}
use Rattle.word_cache.specs.declared.row.Entry.{Entry}
use Rattle.word_cache.specs.declared.row.Entry.TheVariants.{Valid, Registered, Leaving}
use Rattle.word_cache.specs.Cache.{may_go, is_stuck}
use Rattle.registration_protocol.specs.declared.node.NodeWait as wait
use Rattle.registration_protocol.specs.declared.node.NodeWait.{NodeWait}
use Rattle.registration_protocol.specs.declared.node.Step.{Step}
use Rattle.registration_protocol.specs.Node.{NodeParts, Setting, need_now, entry_of, signature_of, is_settled, is_running, is_ready}
use Rattle.registration_protocol.specs.OwnEvents.{lets, noted, me, wanted_by, makes_room, may_instr, may_evict, may_arrive}
use Rattle.registration_protocol.specs.Changes.{KeepsPhase, on_instr}

-- a node whose next instruction may come: its task, the task's declaration, and what the instruction needs
pub record MayInstruct (C : Setting) (n : NodeParts) : Type 0 where
  pub task : TaskState
  pub decl : TaskDecl
  pub needs : Need
  pub has : n.task ≡ Some task
  pub going : task.end ≡ None
  pub declares : declared C.program n.phase n.core ≡ Some decl
  pub asks : need_of C.program decl C.fuel task ≡ needs
  pub now : need_now C n ≡ Some needs
  pub ready : is_ready n.waiting ≡ true
  pub allows : lets n (Some needs) ≡ true
  pub arrived : n.arrived ≡ false
  pub halted : n.halted ≡ false

-- a node that may evict a word
pub record MayEvict (C : Setting) (n : NodeParts) (w : ℕ) : Type 0 where
  pub room : makes_room n w (wanted_by n (need_now C n)) ≡ true
  pub evictable : may_go (entry_of n w) ≡ true
  pub waiting : n.waiting ≡ wait.TheVariants.None
  pub arrived : n.arrived ≡ false
  pub halted : n.halted ≡ false

-- a node that may arrive at the barrier
pub record MayArrive (n : NodeParts) : Type 0 where
  pub done : is_running n.task ≡ false
  pub settled : is_settled n ≡ true
  pub arrived : n.arrived ≡ false
  pub halted : n.halted ≡ false

-- how many instructions a node's task has retired, and the locks that it holds; 0 if there is no task
abbrev pub retired_so_far : Option TaskState → ℕ
retired_so_far None = 0
retired_so_far (Some t) = t.retired

abbrev pub held_locks : Option TaskState → ℕ
held_locks None = 0
held_locks (Some t) = t.held

-- the entry of the word that an instruction accesses
abbrev pub accessed : NodeParts → Need → Option Entry
accessed n (need.TheVariants.Load word) = entry_of n word.0
accessed n (need.TheVariants.Store word whole) = entry_of n word.0
accessed n _ = None

-- whether an access is completed, by the entry of its word; without an entry it is if it needs no value
abbrev pub completes : Bool → Option Entry → Bool
completes whole None = whole
completes whole (Some (Valid value marked)) = true
completes whole (Some (Registered value pending)) = true
completes whole (Some (Leaving value)) = false

-- how many instructions retire by an instruction event: an acquire retires only at the grant
abbrev pub retired_by : Need → Option Entry → ℕ
retired_by need.TheVariants.Local e = 1
retired_by (need.TheVariants.Load word) e = if completes false e then 1 else 0
retired_by (need.TheVariants.Store word whole) e = if completes whole e then 1 else 0
retired_by (need.TheVariants.Acquire lock) e = 0
retired_by (need.TheVariants.Release lock) e = 1
retired_by (need.TheVariants.End by) e = retires_at by

-- the locks that are held after an instruction; a lock that it acquires is held only after the grant
abbrev pub held_by : ℕ → Need → ℕ
held_by held (need.TheVariants.Acquire lock) = held
held_by held x = held_after held x

-- how the task has ended after an instruction
abbrev pub ended_by : Option End → Need → Option End
ended_by old (need.TheVariants.End by) = Some by
ended_by old _ = old

-- the task after an instruction
abbrev pub loads_to : Setting → TaskState → Option Entry → TaskState
loads_to C t (Some (Valid value marked)) = loaded_of C.program value t
loads_to C t (Some (Registered value pending)) = loaded_of C.program value t
loads_to C t _ = t

abbrev pub task_by : Setting → TaskState → Need → Option Entry → TaskState
task_by C t need.TheVariants.Local e = advanced C.program t
task_by C t (need.TheVariants.Load word) e = loads_to C t e
task_by C t (need.TheVariants.Store word whole) e = if completes whole e then advanced C.program t else t
task_by C t (need.TheVariants.Acquire lock) e = t
task_by C t (need.TheVariants.Release lock) e = advanced C.program t
task_by C t (need.TheVariants.End by) e = stopped by t

-- what the node waits for after an access of a word, by its entry
abbrev pub wait_at : NodeWait → WordId → Bool → Option Entry → NodeWait
wait_at old word whole None = if whole then wait.TheVariants.None else wait.TheVariants.Reading word
wait_at old word whole (Some (Leaving value)) = old
wait_at old word whole (Some _) = wait.TheVariants.None

-- what the node waits for after an instruction
abbrev pub wait_by : NodeWait → Need → Option Entry → NodeWait
wait_by old (need.TheVariants.Load word) e = wait_at old word false e
wait_by old (need.TheVariants.Store word whole) e = wait_at old word whole e
wait_by old (need.TheVariants.Acquire lock) e = wait.TheVariants.Locking lock
wait_by old _ e = old

-- the signatures after an instruction; a store that retires puts its word into those of the held locks that guard it
abbrev pub signatures_by : NodeParts → TaskDecl → TaskState → Need → Option Entry → List Signature
signatures_by n d t (need.TheVariants.Store word whole) e =
    if completes whole e then noted d t.held word.0 n.phase 0 n.signatures else n.signatures
signatures_by n d t _ e = n.signatures

-- what an access that lacks a value or a registration sends
abbrev pub sends_read_req : Setting → NodeParts → WordId → Option Outgoing
sends_read_req C n word = to_home C.shape.banks word.0 (ReadReq word (me n))

abbrev pub sends_reg_req : Setting → NodeParts → WordId → Option Outgoing
sends_reg_req C n word = to_home C.shape.banks word.0 (RegReq word (me n))

-- what a load and a store send, by the entry of the word
abbrev pub load_sends : Setting → NodeParts → WordId → Option Entry → Option Outgoing
load_sends C n word None = sends_read_req C n word
load_sends C n word (Some e) = None

abbrev pub store_sends : Setting → NodeParts → WordId → Bool → Option Entry → Option Outgoing
store_sends C n word whole None = if whole then sends_reg_req C n word else sends_read_req C n word
store_sends C n word whole (Some (Valid value marked)) = sends_reg_req C n word
store_sends C n word whole (Some _) = None

-- what an instruction sends
abbrev pub sent_by : Setting → NodeParts → Need → Option Entry → Option Outgoing
sent_by C n (need.TheVariants.Load word) e = load_sends C n word e
sent_by C n (need.TheVariants.Store word whole) e = store_sends C n word whole e
sent_by C n (need.TheVariants.Acquire lock) e = to_home C.shape.banks lock.0 (Acquire lock (me n))
sent_by C n (need.TheVariants.Release lock) e = to_home C.shape.banks lock.0 (Release lock (me n) (signature_of n lock.0))
sent_by C n _ e = None

-- what a load reads, by the entry of its word
abbrev pub sees_in : WordId → Option Entry → Option LoadSeen
sees_in word (Some (Valid value marked)) = Some (record { word = word; value = value })
sees_in word (Some (Registered value pending)) = Some (record { word = word; value = value })
sees_in word _ = None

-- what an instruction reads
abbrev pub seen_by : Need → Option Entry → Option LoadSeen
seen_by (need.TheVariants.Load word) e = sees_in word e
seen_by _ e = None

-- the node after an instruction with this need, where the word that it accesses has this entry, and what it sends and reads
pub record Instructs (C : Setting) (n : NodeParts) (d : TaskDecl) (t : TaskState) (x : Need) (e : Option Entry) (m : NodeParts) (s : Step) : Type 0 where
  pub phase_kept : KeepsPhase n m
  pub sets : m.cache.sets ≡ n.cache.sets
  pub ways : m.cache.ways ≡ n.cache.ways
  pub entries : (w : ℕ) → entry_of m w ≡ on_instr C d t x w (entry_of n w)
  pub task : m.task ≡ Some (task_by C t x e)
  pub waiting : m.waiting ≡ wait_by n.waiting x e
  pub signatures : m.signatures ≡ signatures_by n d t x e
  pub sent : s.sent ≡ sent_by C n x e
  pub seen : s.seen ≡ seen_by x e

-- a task after an instruction: how many have retired, which locks it holds, and how it has ended
pub record Retires (t : TaskState) (x : Need) (e : Option Entry) (u : TaskState) : Type 0 where
  pub retired : u.retired ≡ t.retired + retired_by x e
  pub held : u.held ≡ held_by t.held x
  pub end : u.end ≡ ended_by t.end x

-- the task of a node that a lock is granted to: it acquires the lock then
pub record Acquires (C : Setting) (t : TaskState) (lock : LockId) (u : TaskState) : Type 0 where
  pub within : lock.0 < length C.program.locks
  pub free : is_held t.held lock.0 ≡ false
  pub retired : u.retired ≡ t.retired + 1
  pub held : u.held ≡ bit_or t.held (2 ^ lock.0)
  pub end : u.end ≡ t.end

-- some word of a node has an entry that may not be evicted: it is pending or leaving
abbrev pub IsStuckAt : NodeParts → Type 0
IsStuckAt n = (v : ℕ) × (is_stuck (entry_of n v) ≡ true)

-- a node waits for the value of a word, or for a lock, or an answer to some word's registration or write-back is to come
abbrev pub IsWaiting : NodeParts → Type 0
IsWaiting n =
    ((word : WordId) × (n.waiting ≡ wait.TheVariants.Reading word))
    ⊎ (((lock : LockId) × (n.waiting ≡ wait.TheVariants.Locking lock)) ⊎ IsStuckAt n)

-- an event is one of a node's own, and may come
abbrev pub MayCome : Setting → NodeParts → Event → Type 0
MayCome C n (event.TheVariants.Instr core) = (core ≡ me n) × (may_instr C n ≡ true)
MayCome C n (event.TheVariants.Evict core word) = (core ≡ me n) × (may_evict C n word.0 ≡ true)
MayCome C n (event.TheVariants.Arrive core) = (core ≡ me n) × (may_arrive n ≡ true)
MayCome C n (event.TheVariants.Handle id) = ⊥
