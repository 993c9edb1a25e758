-- When a state of the machine is coherent: what holds between the nodes, the banks, the keeper and the mails in flight after
-- every event of every run of a checked program. Eight parts, each on the state alone.
use Rattle.std.specs.Prelude.{◌≡◌, ◌≢◌, ◌⊎◌, ℕ, ◌+◌, ◌%◌, ◌≤◌, ◌==◌, if◌then◌else◌, ◌∷◌, Bool, true, false, ◌&&◌, not, List, [], slice_get, slice_index_or, Option, Some, None}
use Rattle.std.specs.Option.{option_or}
use Rattle.std.specs.List.{All}
use Rattle.dn_base.specs.declared.ids.CoreId.{CoreId}
use Rattle.dn_base.specs.declared.ids.WordId.{WordId}
use Rattle.dn_base.specs.declared.ids.LockId.{LockId}
use Rattle.region_table.specs.declared.declared.TaskDecl.{TaskDecl}
use Rattle.region_table.specs.Words.{has}
use Rattle.region_table.specs.Plan.{uses_plainly}
use Rattle.region_table.specs.Tasks.{declared}
use Rattle.rv_core.specs.declared.task.TaskState.{TaskState}
use Rattle.rv_core.specs.declared.need.Need.TheVariants.{Load, Store}
use Rattle.rv_core.specs.Access.{is_held, may_store}
use Rattle.write_signature.specs.declared.signature.Signature.{Signature}
use Rattle.write_signature.specs.Signature.{tag, may_hold, joined}
use Rattle.message_net.specs.declared.actor.Actor.{Actor}
use Rattle.message_net.specs.declared.actor.Actor.TheVariants.{Core, Bank, Keeper}
use Rattle.message_net.specs.declared.message.Mail.{Mail}
use Rattle.message_net.specs.declared.message.Message.{Message}
use Rattle.message_net.specs.declared.message.Message.TheVariants.{ReadReq, ReadFwd, DataReply, RegReq, RegFwd, RegAck, WriteBack, WbAck, Acquire, Release, Grant, Arrived, Go, Halt}
use Rattle.word_cache.specs.declared.row.Entry.{Entry}
use Rattle.word_cache.specs.declared.row.Entry.TheVariants.{Valid, Registered, Leaving}
use Rattle.word_cache.specs.Cache.{has_room}
use Rattle.queue_lock.specs.Lock.{Lock, times_queued, holder_count}
use Rattle.phase_barrier.specs.Barrier.{all_arrived}
use Rattle.registry_bank.specs.declared.bank.BankWord.TheVariants.{Home, Reg}
use Rattle.registration_protocol.specs.declared.node.NodeWait as wait
use Rattle.registration_protocol.specs.declared.node.NodeWait.{NodeWait}
use Rattle.registration_protocol.specs.Node.{NodeParts, need_now, entry_of, is_running, is_settled}
use Rattle.registration_protocol.specs.OwnEvents.{task_ended_badly}
use Rattle.registration_protocol.specs.Messages.{written_in}
use Rattle.registration_protocol.specs.Parts.{held_locks}
use Rattle.machine_rules.specs.State.{State, entry_at, home_at, lock_at}
use Rattle.machine_rules.specs.Flight.{bit, flight, is_reg_req_of, is_reg_fwd_of, is_reg_fwd_to, is_reg_fwd_to_itself, is_reg_ack_to, is_write_back_with, is_wb_ack_to, is_read_req_of, is_read_fwd_of, is_read_fwd_to, is_data_reply_to, is_acquire_of, is_release_of, is_grant_to, is_arrival_of, is_go_to, is_halt_to}
use Rattle.machine_rules.specs.Memory.{word_value}

-- exactly one of three
abbrev pub OneOf : ℕ → ℕ → ℕ → Type 0
OneOf a b c = a + b + c ≡ 1

-- a mail is in flight
abbrev pub IsInFlight : State → Mail → Type 0
IsInFlight S m = (place : ℕ) × (slice_get S.mails place ≡ Some m)

-- how a core has a word: registered and not yet acknowledged; registered and acknowledged; or on its way back to its home, with
-- a value
abbrev pub IsPending : State → ℕ → ℕ → Type 0
IsPending S c w = (value : ℕ) × (entry_at S c w ≡ Some (Registered value true))

abbrev pub IsSettled : State → ℕ → ℕ → Type 0
IsSettled S c w = (value : ℕ) × (entry_at S c w ≡ Some (Registered value false))

abbrev pub IsLeaving : State → ℕ → ℕ → ℕ → Type 0
IsLeaving S c w value = entry_at S c w ≡ Some (Leaving value)

-- the home of a word says that a core is its registrant
abbrev pub IsRegistrant : State → ℕ → ℕ → Type 0
IsRegistrant S c w = home_at S w ≡ Some (Reg (record { 0 = c }))

-- what a core's node waits for
abbrev pub waits_for : State → ℕ → NodeWait → Type 0
waits_for S c waiting = (n : NodeParts) × (slice_get S.nodes c ≡ Some n) × (n.waiting ≡ waiting)

-- the task of a node, or of a core's node, holds a lock
abbrev pub holds_lock : ℕ → Option NodeParts → Bool
holds_lock l None = false
holds_lock l (Some n) = is_held (held_locks n.task) l

abbrev pub has_lock : State → ℕ → ℕ → Bool
has_lock S c l = holds_lock l (slice_get S.nodes c)

-- whether a core's node waits for a lock
abbrev pub is_locking : ℕ → NodeWait → Bool
is_locking l (wait.TheVariants.Locking lock) = lock.0 == l
is_locking l _ = false

abbrev pub node_is_locking : ℕ → Option NodeParts → Bool
node_is_locking l None = false
node_is_locking l (Some n) = is_locking l n.waiting

-- how often a core stands in a lock's queue, and whether it is the holder
abbrev pub queued_in : ℕ → Option Lock → ℕ
queued_in c None = 0
queued_in c (Some h) = times_queued c h.queue

abbrev pub holder_in : ℕ → Option Lock → ℕ
holder_in c None = 0
holder_in c (Some h) = holder_count c h.holder

-- whether a core's node has arrived at the barrier and hasn't been halted
abbrev pub is_alive : Option NodeParts → Bool
is_alive None = false
is_alive (Some n) = n.arrived && not n.halted

-- whether a core waits in the keeper's set, which is incomplete
abbrev pub waits_at_keeper : State → ℕ → ℕ
waits_at_keeper S c = bit (not (all_arrived S.keeper) && slice_index_or S.keeper.arrived c false)

-- a node is in the keeper's phase; or it is in the phase before, has arrived in it, and its Go is in flight
abbrev pub IsInPhase : State → ℕ → NodeParts → Type 0
IsInPhase S c n =
    (n.phase ≡ S.keeper.phase) ⊎ (n.phase + 1 ≡ S.keeper.phase) × (n.arrived ≡ true) × (1 ≤ flight S (is_go_to c))

-- a node that has arrived awaits nothing: no entry is pending, it waits for nothing, and it has no running task
pub record HasArrived (n : NodeParts) : Type 0 where
  pub settled : is_settled n ≡ true
  pub waiting : n.waiting ≡ wait.TheVariants.None
  pub over : is_running n.task ≡ false

-- whether the task of a core that the keeper has counted was bad
abbrev pub counts_bad : State → ℕ → Bool
counts_bad S c = slice_index_or S.keeper.arrived c false && bad_in (slice_get S.nodes c)
  where
    bad_in : Option NodeParts → Bool
    bad_in None = false
    bad_in (Some n) = task_ended_badly n.task

-- 1. Phases.
pub record ArePhases (S : State) : Type 0 where
  pub phase : (c : ℕ) (n : NodeParts) → slice_get S.nodes c ≡ Some n → n.halted ≡ false → IsInPhase S c n
  -- for a core that has arrived and isn't halted exactly one of these holds: its Arrived is in flight; it waits in the keeper's
  -- set; a Go or Halt to it is in flight. For any other core none holds
  pub whereabouts : (c : ℕ) → flight S (is_arrival_of c) + waits_at_keeper S c + (flight S (is_go_to c) + flight S (is_halt_to c)) ≡ bit (is_alive (slice_get S.nodes c))
  pub arrived : (c : ℕ) (n : NodeParts) → slice_get S.nodes c ≡ Some n → n.arrived ≡ true → HasArrived n
  -- an Arrived says truly whether the task was bad, and so does the keeper for the cores that it has counted
  pub said : (m : Mail) (core : CoreId) (bad : Bool) → IsInFlight S m → m.message ≡ Arrived core bad
      → (n : NodeParts) → slice_get S.nodes core.0 ≡ Some n → bad ≡ task_ended_badly n.task
  pub bad : S.keeper.bad ≡ true → (c : ℕ) × (counts_bad S c ≡ true)
  pub good : S.keeper.bad ≡ false → (c : ℕ) → counts_bad S c ≡ false
  pub unlocked : (c : ℕ) (n : NodeParts) → slice_get S.nodes c ≡ Some n → 1 ≤ flight S (is_go_to c) → held_locks n.task ≡ 0

-- 2. Locks.
pub record AreLocks (S : State) : Type 0 where
  -- nobody waits for a lock without a holder
  pub free : (l : ℕ) (h : Lock) → lock_at S l ≡ Some h → h.holder ≡ None → h.queue ≡ []
  -- for the core that the home has as the lock's holder exactly one of these holds: its Grant is in flight; its task holds the
  -- lock; its Release is in flight. For any other core none holds
  pub held : (l c : ℕ) → flight S (is_grant_to l c) + bit (has_lock S c l) + flight S (is_release_of l c) ≡ holder_in c (lock_at S l)
  -- for a core that waits for the lock exactly one of these holds: its Acquire is in flight; it stands in the queue; its Grant
  -- is in flight. For any other core none holds
  pub awaited : (l c : ℕ) → flight S (is_acquire_of l c) + queued_in c (lock_at S l) + flight S (is_grant_to l c) ≡ bit (node_is_locking l (slice_get S.nodes c))
  -- a grant in flight carries the signature of the lock's home
  pub granted : (m : Mail) (lock : LockId) (s : Signature) → IsInFlight S m → m.message ≡ Grant lock s
      → (h : Lock) → lock_at S lock.0 ≡ Some h → s ≡ h.kept
  -- no signature at a home is of a later phase than the keeper's, and those of a node are of its own phase, which isn't later
  -- either
  pub kept : (l : ℕ) (h : Lock) → lock_at S l ≡ Some h → tag h.kept ≤ S.keeper.phase
  pub sent : (m : Mail) (lock : LockId) (core : CoreId) (s : Signature) → IsInFlight S m → m.message ≡ Release lock core s → tag s ≤ S.keeper.phase
  pub own : (c : ℕ) (n : NodeParts) → slice_get S.nodes c ≡ Some n → All (λ (s : Signature). tag s ≡ n.phase) n.signatures
  pub behind : (c : ℕ) (n : NodeParts) → slice_get S.nodes c ≡ Some n → n.phase ≤ S.keeper.phase

-- 3. Registrants.
pub record AreRegistrants (S : State) : Type 0 where
  -- a registrant has the word registered or leaving
  pub has : (c w : ℕ) → IsRegistrant S c w → IsPending S c w ⊎ (IsSettled S c w ⊎ ((value : ℕ) × IsLeaving S c w value))
  -- a core that has a word registered is its registrant, or a RegFwd to it is in flight
  pub hears : (c w : ℕ) → IsSettled S c w → IsRegistrant S c w ⊎ (1 ≤ flight S (is_reg_fwd_to w c))

-- the task of a core may store a word with the locks that it holds
pub record MayStore (S : State) (c w : ℕ) : Type 0 where
  pub node : NodeParts
  pub found : slice_get S.nodes c ≡ Some node
  pub task : TaskState
  pub has : node.task ≡ Some task
  pub decl : TaskDecl
  pub declares : declared S.setting.program node.phase c ≡ Some decl
  pub right : may_store decl task.held w ≡ true

-- 4. Pending words.
pub record ArePending (S : State) : Type 0 where
  pub one_core : (c d w : ℕ) → IsPending S c w → IsPending S d w → c ≡ d
  pub right : (c w : ℕ) → IsPending S c w → MayStore S c w
  pub one_mail : (c w : ℕ) → IsPending S c w → OneOf (flight S (is_reg_req_of w c)) (flight S (is_reg_fwd_of w c)) (flight S (is_reg_ack_to w c))
  pub before : (c w : ℕ) → IsPending S c w → 1 ≤ flight S (is_reg_req_of w c) → IsRegistrant S c w → ⊥
  pub behind : (c w : ℕ) → IsPending S c w → 1 ≤ flight S (is_reg_fwd_of w c) + flight S (is_reg_ack_to w c) → IsRegistrant S c w
  pub elsewhere : (c w : ℕ) → flight S (is_reg_fwd_to_itself w c) ≡ 0

-- 5. Leaving words.
pub record AreLeaving (S : State) : Type 0 where
  pub one_mail : (c w value : ℕ) → IsLeaving S c w value → flight S (is_write_back_with w c value) + flight S (is_wb_ack_to w c) ≡ 1
  pub given : (c w value : ℕ) → IsLeaving S c w value → 1 ≤ flight S (is_wb_ack_to w c) → IsRegistrant S c w → ⊥

-- a node's next instruction loads the word or stores a part of it
abbrev pub NeedsValue : State → NodeParts → WordId → Type 0
NeedsValue S n word = (need_now S.setting n ≡ Some (Load word)) ⊎ (need_now S.setting n ≡ Some (Store word false))

-- a node waits to read a word: it has no entry of it, and room
pub record IsReading (S : State) (c : ℕ) (word : WordId) : Type 0 where
  pub node : NodeParts
  pub found : slice_get S.nodes c ≡ Some node
  pub waiting : node.waiting ≡ wait.TheVariants.Reading word
  pub none : entry_of node word.0 ≡ None
  pub room : has_room node.cache word.0 ≡ true
  pub wants : NeedsValue S node word

-- a word's registrant is this core, or the word is at home
abbrev pub IsAtOrHome : State → ℕ → ℕ → Type 0
IsAtOrHome S d w = IsRegistrant S d w ⊎ ((value : ℕ) × (home_at S w ≡ Some (Home value)))

-- the value of an entry that a forwarded read can be answered from
abbrev pub owned_value : Option Entry → Option ℕ
owned_value (Some (Registered value pending)) = Some value
owned_value (Some (Leaving value)) = Some value
owned_value _ = None

-- 6. Reads.
pub record AreReads (S : State) : Type 0 where
  pub reading : (c : ℕ) (word : WordId) → waits_for S c (wait.TheVariants.Reading word) → IsReading S c word
  pub quiet : (c d : ℕ) (word : WordId) → waits_for S c (wait.TheVariants.Reading word) → IsPending S d word.0 → ⊥
  pub one_mail : (c : ℕ) (word : WordId) → waits_for S c (wait.TheVariants.Reading word)
      → OneOf (flight S (is_read_req_of word.0 c)) (flight S (is_read_fwd_of word.0 c)) (flight S (is_data_reply_to word.0 c))
  pub answered : (m : Mail) (word : WordId) (value : ℕ) → IsInFlight S m → m.message ≡ DataReply word value → value ≡ word_value S word.0
  pub forwarded : (d w : ℕ) → 1 ≤ flight S (is_read_fwd_to w d) → IsAtOrHome S d w
  pub owned : (d w value : ℕ) → 1 ≤ flight S (is_read_fwd_to w d) → owned_value (entry_at S d w) ≡ Some value → value ≡ word_value S w
  pub filled : (c : ℕ) (n : NodeParts) (word : WordId) → slice_get S.nodes c ≡ Some n → n.waiting ≡ wait.TheVariants.Filled word
      → ((value : ℕ) × (marked : Bool) × (entry_of n word.0 ≡ Some (Valid value marked))) × NeedsValue S n word

-- some actor awaits this message, and it goes to this receiver; no other message is expected
abbrev pub IsExpected : State → Actor → Message → Type 0
IsExpected S (Bank bank) (RegReq word core) = (bank.0 ≡ word.0 % S.setting.shape.banks) × IsPending S core.0 word.0
IsExpected S (Core core) (RegFwd word other) = IsPending S other.0 word.0
IsExpected S (Core core) (RegAck word) = IsPending S core.0 word.0
IsExpected S (Bank bank) (WriteBack word value core) = (bank.0 ≡ word.0 % S.setting.shape.banks) × IsLeaving S core.0 word.0 value
IsExpected S (Core core) (WbAck word) = (value : ℕ) × IsLeaving S core.0 word.0 value
IsExpected S (Bank bank) (ReadReq word reader) = (bank.0 ≡ word.0 % S.setting.shape.banks) × waits_for S reader.0 (wait.TheVariants.Reading word)
IsExpected S (Core core) (ReadFwd word reader) = waits_for S reader.0 (wait.TheVariants.Reading word)
IsExpected S (Core core) (DataReply word value) = waits_for S core.0 (wait.TheVariants.Reading word)
IsExpected S (Bank bank) (Acquire lock core) = (bank.0 ≡ lock.0 % S.setting.shape.banks) × waits_for S core.0 (wait.TheVariants.Locking lock)
IsExpected S (Bank bank) (Release lock core s) = (bank.0 ≡ lock.0 % S.setting.shape.banks) × (holder_in core.0 (lock_at S lock.0) ≡ 1)
IsExpected S (Core core) (Grant lock s) = waits_for S core.0 (wait.TheVariants.Locking lock)
IsExpected S Keeper (Arrived core bad) = is_alive (slice_get S.nodes core.0) ≡ true
IsExpected S (Core core) (Go phase) = (phase.0 ≡ S.keeper.phase) × (is_alive (slice_get S.nodes core.0) ≡ true)
IsExpected S (Core core) Halt = is_alive (slice_get S.nodes core.0) ≡ true
IsExpected S _ _ = ⊥

-- 7. No strays: each message in flight is awaited.
abbrev pub AreExpected : State → Type 0
AreExpected S = (m : Mail) → IsInFlight S m → IsExpected S m.to m.message

-- the signature that a node has for a lock, and the one in the first release of the lock that is in flight
abbrev pub signature_at : ℕ → Option NodeParts → Option Signature
signature_at l None = None
signature_at l (Some n) = slice_get n.signatures l

abbrev pub release_in : ℕ → Message → Option Signature
release_in l (Release lock core s) = if lock.0 == l then Some s else None
release_in l _ = None

abbrev pub first_release : ℕ → List Mail → Option Signature
first_release l [] = None
first_release l (m ∷ ms) = option_or (release_in l m.message) (first_release l ms)

-- the words written under a lock so far: those that its home knows of, and those of its holder, or of the Release in flight
abbrev pub with_carried : Signature → Option Signature → Signature
with_carried kept None = kept
with_carried kept (Some s) = joined kept s

abbrev pub with_holder : State → ℕ → Signature → Option CoreId → Signature
with_holder S l kept None = kept
with_holder S l kept (Some c) =
    with_carried kept (if has_lock S c.0 l then signature_at l (slice_get S.nodes c.0) else first_release l S.mails)

abbrev pub lock_signature : State → ℕ → Lock → Signature
lock_signature S l h = with_holder S l h.kept h.holder

-- the task of another core, in the keeper's phase, may write the word without a lock
pub record HasWriter (S : State) (c w : ℕ) : Type 0 where
  pub core : ℕ
  pub other : core ≢ c
  pub decl : TaskDecl
  pub declares : declared S.setting.program S.keeper.phase core ≡ Some decl
  pub writes : has decl.effects.writes w ≡ true

-- the task of another core, in the keeper's phase, may write the word under a lock that this core's task doesn't hold, and the
-- lock's signature may hold the word
pub record HasGuardedWriter (S : State) (c w : ℕ) : Type 0 where
  pub core : ℕ
  pub other : core ≢ c
  pub decl : TaskDecl
  pub declares : declared S.setting.program S.keeper.phase core ≡ Some decl
  pub lock : ℕ
  pub writes : has (slice_index_or decl.effects.guarded_writes lock []) w ≡ true
  pub unheld : has_lock S c lock ≡ false
  pub state : Lock
  pub there : lock_at S lock ≡ Some state
  pub signed : may_hold (lock_signature S lock state) w S.keeper.phase ≡ true

-- a core is still in the phase before the keeper's, that phase may have written the word, and the core's copy isn't marked
pub record IsBehind (S : State) (c w : ℕ) (marked : Bool) : Type 0 where
  pub node : NodeParts
  pub found : slice_get S.nodes c ≡ Some node
  pub phase : node.phase + 1 ≡ S.keeper.phase
  pub written : has (written_in (slice_get S.setting.plans node.phase)) w ≡ true
  pub unmarked : marked ≡ false

-- a copy has the word's value, or its core drops it before it reads it
abbrev pub IsFresh : State → ℕ → ℕ → ℕ → Type 0
IsFresh S c w value = value ≡ word_value S w

-- the task of a core in its phase uses a word without a lock
pub record UsesPlainly (S : State) (c w : ℕ) : Type 0 where
  pub node : NodeParts
  pub found : slice_get S.nodes c ≡ Some node
  pub decl : TaskDecl
  pub declares : declared S.setting.program node.phase c ≡ Some decl
  pub plain : uses_plainly decl w ≡ true

-- 8. Copies.
pub record AreCopies (S : State) : Type 0 where
  pub marked : (c w value : ℕ) → entry_at S c w ≡ Some (Valid value true) → UsesPlainly S c w
  pub fresh : (c w value : ℕ) (marked : Bool) → entry_at S c w ≡ Some (Valid value marked)
      → IsFresh S c w value ⊎ (IsBehind S c w marked ⊎ (HasWriter S c w ⊎ HasGuardedWriter S c w))

pub record Coherent (S : State) : Type 0 where
  pub phases : ArePhases S
  pub locks : AreLocks S
  pub registrants : AreRegistrants S
  pub pending : ArePending S
  pub leaving : AreLeaving S
  pub reads : AreReads S
  pub expected : AreExpected S
  pub copies : AreCopies S
