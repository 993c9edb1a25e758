-- What holds after every event, in the form in which it is kept: equations on counts, each for one word and one core, for
-- one lock and one core, or for one core.
use Rattle.std.proofs.Common.{◌≡◌, ◌≢◌, ◌⊎◌, ℕ, ◌+◌, ◌%◌, ◌<◌, ◌≤◌, ◌==◌, nat_lt, Bool, true, false, not, ◌&&◌, List, [], length, slice_get, slice_index_or, sum_by, Option, Some, None}
use Rattle.dn_base.specs.declared.ids.CoreId.{CoreId}
use Rattle.dn_base.specs.declared.ids.WordId.{WordId}
use Rattle.region_table.specs.declared.declared.TaskDecl.{TaskDecl}
use Rattle.region_table.specs.Words.{has}
use Rattle.region_table.specs.Tasks.{declared}
use Rattle.rv_core.specs.declared.task.End.TheVariants.{Finished}
use Rattle.rv_core.specs.declared.task.TaskState.{TaskState}
use Rattle.rv_core.specs.Access.{is_held}
use Rattle.write_signature.specs.declared.signature.Signature.{Signature}
use Rattle.write_signature.specs.Signature.{tag, may_hold}
use Rattle.message_net.specs.declared.actor.Actor.{Actor}
use Rattle.message_net.specs.declared.actor.Actor.TheVariants.{Core, Bank, Keeper}
use Rattle.message_net.specs.declared.message.Message.TheVariants.{ReadReq, RegReq, WriteBack, Acquire, Release, Grant, Arrived, Go}
use Rattle.word_cache.specs.declared.row.Entry.TheVariants.{Valid, Registered, Leaving}
use Rattle.word_cache.specs.Cache.{has_room}
use Rattle.queue_lock.specs.Lock.{Lock}
use Rattle.registry_bank.specs.declared.bank.BankWord.TheVariants.{Home, Reg}
use Rattle.phase_barrier.specs.Barrier.{all_arrived}
use Rattle.registration_protocol.specs.declared.node.NodeWait as wait
use Rattle.registration_protocol.specs.Node.{NodeParts, entry_of}
use Rattle.registration_protocol.specs.OwnEvents.{task_ended_badly}
use Rattle.registration_protocol.specs.Parts.{held_locks}
use Rattle.machine_rules.specs.State.{State, entry_at, home_at, lock_at}
use Rattle.machine_rules.specs.Sound.{IsMachine}
use Rattle.machine_rules.specs.Flight.{Test, bit, flight, is_reg_req_of, is_reg_fwd_of, is_reg_fwd_to, is_reg_fwd_to_itself, is_reg_ack_to, is_write_back_of, is_write_back_with, is_wb_ack_to, is_read_req_of, is_read_fwd_of, is_read_fwd_to, is_data_reply_to, is_false_data_reply, is_acquire_of, is_release_of, is_grant_to, is_arrival_of, is_go_to, is_halt_to}
use Rattle.machine_rules.specs.Coherent.{MayStore, UsesPlainly, IsBehind, HasWriter, NeedsValue, HasArrived, owned_value, has_lock, node_is_locking, queued_in, holder_in, is_alive, waits_at_keeper, counts_bad}
use Rattle.machine_rules.proofs.Bits.{pending_bit, settled_bit, leaving_bit, known_bit, owner_bit, reading_in, same_signature, signed_in}

-- ---- Where mails go.

-- a mail that goes to the wrong sort of actor, to the wrong bank, or to a core that isn't there
abbrev pub is_bank : ℕ → Actor → Bool
is_bank b (Bank bank) = bank.0 == b
is_bank b _ = false

abbrev pub is_core : ℕ → Actor → Bool
is_core cores (Core core) = nat_lt core.0 cores
is_core cores _ = false

abbrev pub is_keeper : Actor → Bool
is_keeper Keeper = true
is_keeper _ = false

abbrev pub is_right : ℕ → ℕ → Test
is_right cores banks to (ReadReq word reader) = is_bank (word.0 % banks) to
is_right cores banks to (RegReq word core) = is_bank (word.0 % banks) to
is_right cores banks to (WriteBack word value core) = is_bank (word.0 % banks) to
is_right cores banks to (Acquire lock core) = is_bank (lock.0 % banks) to
is_right cores banks to (Release lock core signature) = is_bank (lock.0 % banks) to
is_right cores banks to (Arrived core bad) = is_keeper to
is_right cores banks to _ = is_core cores to

abbrev pub is_lost : ℕ → ℕ → Test
is_lost cores banks to message = not (is_right cores banks to message)

-- ---- Words: registrants, pending and leaving words (parts 3, 4, 5 and 7).

pub record WordCounts : Type 0 where
  pub known : ℕ
  pub owner : ℕ
  pub pending : ℕ
  pub settled : ℕ
  pub leaving : ℕ
  pub asked : ℕ
  pub forwarded : ℕ
  pub acked : ℕ
  pub sought : ℕ
  pub turned : ℕ
  pub written : ℕ
  pub freed : ℕ

abbrev pub word_counts : State → ℕ → ℕ → WordCounts
word_counts S w c =
    record {
      known = known_bit (home_at S w);
      owner = owner_bit c (home_at S w);
      pending = pending_bit (entry_at S c w);
      settled = settled_bit (entry_at S c w);
      leaving = leaving_bit (entry_at S c w);
      asked = flight S (is_reg_req_of w c);
      forwarded = flight S (is_reg_fwd_of w c);
      acked = flight S (is_reg_ack_to w c);
      sought = flight S (is_reg_fwd_to w c);
      turned = flight S (is_reg_fwd_to_itself w c);
      written = flight S (is_write_back_of w c);
      freed = flight S (is_wb_ack_to w c);
    }

pub record WordRow (n : WordCounts) : Type 0 where
  -- a word with an entry that isn't Valid is one of the machine
  pub within : n.pending + n.settled + n.leaving ≤ n.known
  -- a registrant has the word
  pub has : n.owner ≤ n.pending + n.settled + n.leaving
  -- who has it registered is the registrant, or is about to hear who is
  pub alone : n.settled ≤ n.owner + n.sought
  -- one mail for a pending word, and none else
  pub one : n.asked + n.forwarded + n.acked ≡ n.pending
  pub before : n.asked + n.owner ≤ 1
  pub behind : n.forwarded + n.acked ≤ n.owner
  pub elsewhere : n.turned ≡ 0
  -- one mail for a leaving word, and none else
  pub leave : n.written + n.freed ≡ n.leaving
  pub unowned : n.freed + n.owner ≤ 1

pub record WordsGood (S : State) : Type 0 where
  pub row : (w c : ℕ) → WordRow (word_counts S w c)
  pub single : (w c d : ℕ) → pending_bit (entry_at S c w) + pending_bit (entry_at S d w) ≤ 1 + bit (c == d)
  -- a write-back has the leaving entry's value
  pub valued : (w c value : ℕ) → entry_at S c w ≡ Some (Leaving value) → flight S (is_write_back_with w c value) ≡ flight S (is_write_back_of w c)
  -- whose word is pending may store it
  pub right : (c w : ℕ) → pending_bit (entry_at S c w) ≡ 1 → MayStore S c w

-- ---- Locks (parts 2 and 7), and their signatures.

pub record LockCounts : Type 0 where
  pub holder : ℕ
  pub queued : ℕ
  pub holding : ℕ
  pub waiting : ℕ
  pub asked : ℕ
  pub released : ℕ
  pub granted : ℕ

abbrev pub lock_counts : State → ℕ → ℕ → LockCounts
lock_counts S l c =
    record {
      holder = holder_in c (lock_at S l);
      queued = queued_in c (lock_at S l);
      holding = bit (has_lock S c l);
      waiting = bit (node_is_locking l (slice_get S.nodes c));
      asked = flight S (is_acquire_of l c);
      released = flight S (is_release_of l c);
      granted = flight S (is_grant_to l c);
    }

pub record LockRow (n : LockCounts) : Type 0 where
  pub held : n.granted + n.holding + n.released ≡ n.holder
  pub awaited : n.asked + n.queued + n.granted ≡ n.waiting

-- a grant of lock l with another signature than this; a release of a signature of a later phase than p
abbrev pub is_unlike : ℕ → Signature → Test
is_unlike l s to (Grant lock t) = (lock.0 == l) && not (same_signature s t)
is_unlike l s to _ = false

abbrev pub is_late : ℕ → Test
is_late p to (Release lock core s) = nat_lt p (tag s)
is_late p to _ = false

pub record LocksGood (S : State) : Type 0 where
  pub row : (l c : ℕ) → LockRow (lock_counts S l c)
  pub kept : (l : ℕ) (h : Lock) → lock_at S l ≡ Some h → tag h.kept ≤ S.keeper.phase
  pub released : flight S (is_late S.keeper.phase) ≡ 0
  pub granted : (l : ℕ) (h : Lock) → lock_at S l ≡ Some h → flight S (is_unlike l h.kept) ≡ 0

-- ---- Phases (parts 1 and 7).

pub record PhaseCounts : Type 0 where
  pub alive : ℕ
  pub arriving : ℕ
  pub waits : ℕ
  pub going : ℕ
  pub halting : ℕ

abbrev pub phase_counts : State → ℕ → PhaseCounts
phase_counts S c =
    record {
      alive = bit (is_alive (slice_get S.nodes c));
      arriving = flight S (is_arrival_of c);
      waits = waits_at_keeper S c;
      going = flight S (is_go_to c);
      halting = flight S (is_halt_to c);
    }

pub record PhaseRow (n : PhaseCounts) : Type 0 where
  pub one : n.arriving + n.waits + (n.going + n.halting) ≡ n.alive

-- a Go of another phase than p; an arrival that doesn't say truly whether the task was bad
abbrev pub is_astray : ℕ → Test
is_astray p to (Go phase) = not (phase.0 == p)
is_astray p to _ = false

abbrev pub same_truth : Bool → Bool → Bool
same_truth true b = b
same_truth false b = not b

abbrev pub bad_in : Option NodeParts → Bool
bad_in None = false
bad_in (Some n) = task_ended_badly n.task

abbrev pub is_lie : List NodeParts → Test
is_lie nodes to (Arrived core bad) = not (same_truth bad (bad_in (slice_get nodes core.0)))
is_lie nodes to _ = false

pub record PhasesGood (S : State) : Type 0 where
  pub row : (c : ℕ) → PhaseRow (phase_counts S c)
  pub phase : (c : ℕ) (n : NodeParts) → slice_get S.nodes c ≡ Some n → n.halted ≡ false → n.phase + flight S (is_go_to c) ≡ S.keeper.phase
  pub astray : flight S (is_astray S.keeper.phase) ≡ 0
  pub arrived : (c : ℕ) (n : NodeParts) → slice_get S.nodes c ≡ Some n → n.arrived ≡ true → HasArrived n
  pub asleep : (c : ℕ) (n : NodeParts) → slice_get S.nodes c ≡ Some n → n.halted ≡ true → HasArrived n
  pub truly : flight S (is_lie S.nodes) ≡ 0
  pub bad : S.keeper.bad ≡ true → (c : ℕ) × (counts_bad S c ≡ true)
  pub good : S.keeper.bad ≡ false → (c : ℕ) → counts_bad S c ≡ false
  -- once the keeper's set is whole the run is over, and nobody arrives or goes on any more
  pub over : all_arrived S.keeper ≡ true → (c : ℕ) → flight S (is_arrival_of c) + flight S (is_go_to c) ≡ 0
  pub halting : (c : ℕ) → 1 ≤ flight S (is_halt_to c) → all_arrived S.keeper ≡ true
  pub whole : all_arrived S.keeper ≡ true → (c : ℕ) (n : NodeParts) → slice_get S.nodes c ≡ Some n → n.arrived ≡ true
  pub finished : (c : ℕ) (n : NodeParts) (t : TaskState) → slice_get S.nodes c ≡ Some n → n.task ≡ Some t → t.end ≡ Some Finished → t.held ≡ 0
  pub unlocked : (c : ℕ) (n : NodeParts) → slice_get S.nodes c ≡ Some n → 1 ≤ flight S (is_go_to c) → held_locks n.task ≡ 0
  pub within : S.keeper.phase < length S.setting.program.phases ⊎ (length S.setting.program.phases ≡ 0)

-- ---- Reads (parts 6 and 7).

pub record ReadCounts : Type 0 where
  pub reading : ℕ
  pub sought : ℕ
  pub forwarded : ℕ
  pub replied : ℕ

abbrev pub read_counts : State → ℕ → ℕ → ReadCounts
read_counts S w c =
    record {
      reading = reading_in w (slice_get S.nodes c);
      sought = flight S (is_read_req_of w c);
      forwarded = flight S (is_read_fwd_of w c);
      replied = flight S (is_data_reply_to w c);
    }

pub record ReadRow (n : ReadCounts) : Type 0 where
  pub one : n.sought + n.forwarded + n.replied ≡ n.reading

pub record ReadsGood (S : State) : Type 0 where
  pub row : (w c : ℕ) → ReadRow (read_counts S w c)
  pub quiet : (w c d : ℕ) → reading_in w (slice_get S.nodes c) + pending_bit (entry_at S d w) ≤ 1
  -- a read that was forwarded to d meets d as the registrant, or the word at its home
  pub pair : (w d e : ℕ) → 1 ≤ flight S (is_read_fwd_to w d) → owner_bit e (home_at S w) ≤ bit (d == e)
  pub reading : (c : ℕ) (n : NodeParts) (word : WordId) → slice_get S.nodes c ≡ Some n → n.waiting ≡ wait.TheVariants.Reading word
      → (entry_of n word.0 ≡ None) × (has_room n.cache word.0 ≡ true) × NeedsValue S n word
  pub filled : (c : ℕ) (n : NodeParts) (word : WordId) → slice_get S.nodes c ≡ Some n → n.waiting ≡ wait.TheVariants.Filled word
      → ((value : ℕ) × (marked : Bool) × (entry_of n word.0 ≡ Some (Valid value marked))) × NeedsValue S n word

-- ---- Values (part 6): against a memory, to which each store is applied as it retires.

-- nobody is about to register the word
abbrev pub AllSettled : State → ℕ → Type 0
AllSettled S w = (c : ℕ) → pending_bit (entry_at S c w) ≡ 0

pub record ValuesGood (S : State) (M : ℕ → ℕ) : Type 0 where
  pub beyond : (w : ℕ) → home_at S w ≡ None → M w ≡ 0
  pub pending : (c w value : ℕ) → entry_at S c w ≡ Some (Registered value true) → value ≡ M w
  pub home : (w value : ℕ) → AllSettled S w → home_at S w ≡ Some (Home value) → value ≡ M w
  pub owner : (w value : ℕ) (core : CoreId) → AllSettled S w → home_at S w ≡ Some (Reg core) → owned_value (entry_at S core.0 w) ≡ Some value → value ≡ M w
  pub replied : flight S (is_false_data_reply M) ≡ 0
  pub forwarded : (d w value : ℕ) → 1 ≤ flight S (is_read_fwd_to w d) → owned_value (entry_at S d w) ≡ Some value → value ≡ M w

-- ---- Copies (part 8).

-- whether a signature may hold a word of the keeper's phase: at the lock's home, at its holder, in its release
abbrev pub kept_bit : ℕ → ℕ → Option Lock → ℕ
kept_bit w p None = 0
kept_bit w p (Some h) = bit (may_hold h.kept w p)

abbrev pub carried_by : ℕ → ℕ → ℕ → NodeParts → ℕ
carried_by l w p n = bit (is_held (held_locks n.task) l && signed_in w p (slice_get n.signatures l))

abbrev pub is_carrying : ℕ → ℕ → ℕ → Test
is_carrying l w p to (Release lock core s) = (lock.0 == l) && may_hold s w p
is_carrying l w p to _ = false

abbrev pub carriers : State → ℕ → ℕ → ℕ
carriers S l w =
    kept_bit w S.keeper.phase (lock_at S l)
    + (sum_by (carried_by l w S.keeper.phase) S.nodes + flight S (is_carrying l w S.keeper.phase))

-- another core's task may write the word under a lock that the core doesn't hold, and some signature of the lock may hold it
pub record MayHaveWritten (S : State) (c w : ℕ) : Type 0 where
  pub core : ℕ
  pub other : core ≢ c
  pub decl : TaskDecl
  pub declares : declared S.setting.program S.keeper.phase core ≡ Some decl
  pub lock : ℕ
  pub writes : has (slice_index_or decl.effects.guarded_writes lock []) w ≡ true
  pub unheld : has_lock S c lock ≡ false
  pub signed : 1 ≤ carriers S lock w

abbrev pub MayBeOld : State → ℕ → ℕ → Bool → Type 0
MayBeOld S c w marked = IsBehind S c w marked ⊎ (HasWriter S c w ⊎ MayHaveWritten S c w)

pub record CopiesGood (S : State) (M : ℕ → ℕ) : Type 0 where
  pub marked : (c w value : ℕ) → entry_at S c w ≡ Some (Valid value true) → UsesPlainly S c w
  pub fresh : (c w value : ℕ) (marked : Bool) → entry_at S c w ≡ Some (Valid value marked) → (value ≡ M w) ⊎ MayBeOld S c w marked

-- ---- All of it.

pub record Invariant (S : State) (M : ℕ → ℕ) : Type 0 where
  pub machine : IsMachine S
  -- no mail goes astray
  pub addressed : flight S (is_lost S.setting.shape.cores S.setting.shape.banks) ≡ 0
  pub words : WordsGood S
  pub locks : LocksGood S
  pub phases : PhasesGood S
  pub reads : ReadsGood S
  pub values : ValuesGood S M
  pub copies : CopiesGood S M
  -- no node is ahead of the keeper, halted or not
  pub behind : (c : ℕ) (n : NodeParts) → slice_get S.nodes c ≡ Some n → n.phase ≤ S.keeper.phase
  -- a node is halted only once the keeper's set is whole, or where there are no phases
  pub ended : (c : ℕ) (n : NodeParts) → slice_get S.nodes c ≡ Some n → n.halted ≡ true → (all_arrived S.keeper ≡ true) ⊎ (length S.setting.program.phases ≡ 0)
