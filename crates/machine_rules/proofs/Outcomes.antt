-- Every way in which an event may go in a state that keeps the invariant: which node, bank or keeper changes, into what, and
-- what is sent. A family of the invariant is kept by all events where it is kept by each of these.
use Rattle.std.proofs.Common.{◌≡◌, ◌≢◌, ◌⊎◌, ℕ, zero, suc, ◌+◌, ◌<◌, ◌==◌, Bool, true, false, ◌||◌, cond, List, [], ◌∷◌, ◌++◌, length, slice_get, Option, Some, None}
use Rattle.dn_base.specs.declared.ids.CoreId.{CoreId}
use Rattle.dn_base.specs.declared.ids.WordId.{WordId}
use Rattle.dn_base.specs.declared.ids.LockId.{LockId}
use Rattle.dn_base.specs.declared.ids.PhaseId.{PhaseId}
use Rattle.dn_base.specs.declared.ids.BankId.{BankId}
use Rattle.dn_base.specs.declared.ids.Grant.{Grant as Granted}
use Rattle.dn_base.specs.declared.ids.LoadSeen.{LoadSeen}
use Rattle.region_table.specs.declared.declared.TaskDecl.{TaskDecl}
use Rattle.region_table.specs.Plan.{uses_plainly}
use Rattle.region_table.specs.Tasks.{declared}
use Rattle.rv_core.specs.declared.task.TaskState.{TaskState}
use Rattle.rv_core.specs.declared.task.End.{End as Ended}
use Rattle.rv_core.specs.declared.need.Need as need
use Rattle.rv_core.specs.declared.need.Need.{Need}
use Rattle.rv_core.specs.Need.{need_of}
use Rattle.rv_core.specs.Step.{advanced, loaded_of, merged_of}
use Rattle.rv_core.specs.Task.{stopped}
use Rattle.write_signature.specs.declared.signature.Signature.{Signature}
use Rattle.message_net.specs.declared.actor.Actor.TheVariants.{Core, Bank, Keeper}
use Rattle.message_net.specs.declared.event.Event.{Event}
use Rattle.message_net.specs.declared.message.Message.{Message}
use Rattle.message_net.specs.declared.message.Message.TheVariants.{ReadReq, ReadFwd, DataReply, RegReq, RegFwd, RegAck, WriteBack, WbAck, Acquire, Release, Grant, Arrived, Go, Halt}
use Rattle.message_net.specs.declared.message.Outgoing.{Outgoing}
use Rattle.message_net.specs.Mail.{to_core, to_home, to_keeper}
use Rattle.word_cache.specs.declared.row.Entry.TheVariants.{Valid, Registered, Leaving}
use Rattle.word_cache.specs.Cache.{has_room, put, touched}
use Rattle.queue_lock.specs.Lock.{Lock}
use Rattle.write_signature.specs.Signature.{joined}
use Rattle.registry_bank.specs.declared.bank.BankWord.{BankWord}
use Rattle.registry_bank.specs.declared.bank.BankWord.TheVariants.{Home, Reg}
use Rattle.phase_barrier.specs.Barrier.{Barrier, with_arrival, in_next_phase, all_arrived, is_over}
use Rattle.registration_protocol.specs.declared.node.NodeWait as wait
use Rattle.registration_protocol.specs.Node.{NodeParts, keeping, signature_of, entry_of, is_settled, is_active, is_ready, is_running}
use Rattle.registration_protocol.specs.OwnEvents.{task_ended_badly, retires, with_put, stored}
use Rattle.registration_protocol.specs.Parts.{retired_so_far}
use Rattle.registration_protocol.specs.Messages.{with_entry, lacking, holds_now, begins}
use Rattle.machine_rules.specs.State.{State, home_at, lock_at}
use Rattle.machine_rules.specs.Next.{next, seen_in, granted_in}
use Rattle.machine_rules.specs.Memory.{store_in}
use Rattle.machine_rules.specs.Actions.{Action, acquires, releases, arrives, starts}
use Rattle.machine_rules.specs.Accesses.{synchronization_in}
use Rattle.machine_rules.specs.Fair.{Request, request_in}
use Rattle.machine_rules.specs.Flight.{Test, bit, flight}
use Rattle.machine_rules.specs.Coherent.{owned_value}
use Rattle.machine_rules.proofs.Bits.{passes, settled_bit, owner_bit}
use Rattle.machine_rules.proofs.Steps.{NodeStep}

-- what an event tells and stores, and how it synchronizes
pub record Tells (S : State) (e : Event) (seen : Option LoadSeen) (granted : Option Granted) (store : Option (WordId × ℕ)) (synchronization : Option Action) (request : Option Request) : Type 0 where
  pub seen_is : seen_in S e ≡ seen
  pub granted_is : granted_in S e ≡ granted
  pub synchronization_is : synchronization_in S e ≡ synchronization
  pub request_is : request_in S e ≡ request
  pub store_is : store_in S e ≡ store

-- a memory after a store, if there is one
abbrev pub stored_to : Option (WordId × ℕ) → (ℕ → ℕ) → ℕ → ℕ
stored_to None M w = M w
stored_to (Some (word, value)) M w = cond (word.0 == w) value (M w)

-- the message that a core, a bank or the keeper handles
abbrev pub at_core : CoreId → Message → Option Outgoing
at_core core message = Some (record { to = Core core; message = message })

abbrev pub at_bank : BankId → Message → Option Outgoing
at_bank bank message = Some (record { to = Bank bank; message = message })

abbrev pub at_keeper : Message → Option Outgoing
at_keeper message = Some (record { to = Keeper; message = message })

-- the node n of a core has the task t in its phase, which goes on; the program declares it as d, and it needs this next
pub record IsActing (S : State) (core : CoreId) (n : NodeParts) (d : TaskDecl) (t : TaskState) (needs : Need) : Type 0 where
  pub found : slice_get S.nodes core.0 ≡ Some n
  pub awake : n.halted ≡ false
  pub absent : n.arrived ≡ false
  pub ready : is_ready n.waiting ≡ true
  pub task : n.task ≡ Some t
  pub open' : t.end ≡ None
  pub declares : declared S.setting.program n.phase core.0 ≡ Some d
  pub wants : need_of S.setting.program d S.setting.fuel t ≡ needs

-- a bank's event: the home of word w has another content, or lock l another state, or nothing changes; and what it sends
pub record WordStep (S T : State) (w : ℕ) (content : BankWord) (left sent : Option Outgoing) : Type 0 where
  pub setting : T.setting ≡ S.setting
  pub nodes : T.nodes ≡ S.nodes
  pub keeper : T.keeper ≡ S.keeper
  pub homes : (v : ℕ) → home_at T v ≡ cond (w == v) (Some content) (home_at S v)
  pub locks : (l : ℕ) → lock_at T l ≡ lock_at S l
  pub flown : (p : Test) → flight T p + passes p left ≡ flight S p + passes p sent

pub record LockStep (S T : State) (l : ℕ) (state : Lock) (left sent : Option Outgoing) : Type 0 where
  pub setting : T.setting ≡ S.setting
  pub nodes : T.nodes ≡ S.nodes
  pub keeper : T.keeper ≡ S.keeper
  pub homes : (v : ℕ) → home_at T v ≡ home_at S v
  pub locks : (k : ℕ) → lock_at T k ≡ cond (l == k) (Some state) (lock_at S k)
  pub flown : (p : Test) → flight T p + passes p left ≡ flight S p + passes p sent

-- the keeper's event: it posts `sent` to each core, or nothing
abbrev pub to_all : Test → ℕ → Option Message → ℕ
to_all p zero sent = 0
to_all p (suc c) None = 0
to_all p (suc c) (Some message) = to_all p c (Some message) + bit (p (Core (record { 0 = c })) message)

pub record BarrierStep (S T : State) (k : Barrier) (left : Option Outgoing) (sent : Option Message) : Type 0 where
  pub setting : T.setting ≡ S.setting
  pub nodes : T.nodes ≡ S.nodes
  pub banks : T.banks ≡ S.banks
  pub keeper : T.keeper ≡ k
  pub flown : (p : Test) → flight T p + passes p left ≡ flight S p + to_all p S.setting.shape.cores sent

-- the ways of an event e from a state S, with what has to be shown of each: G of the memory after it
pub record Outcomes (S : State) (M : ℕ → ℕ) (e : Event) (G : (ℕ → ℕ) → Type 0) : Type 0 where
  -- instructions
  pub local : (core : CoreId) (n : NodeParts) (d : TaskDecl) (t : TaskState) → IsActing S core n d t need.TheVariants.Local → Tells S e None None None None None
      → NodeStep S (next S e) core.0 n (record n { task = Some (advanced S.setting.program t) }) None None → G M
  pub ends : (core : CoreId) (n : NodeParts) (d : TaskDecl) (t : TaskState) (by : Ended) → IsActing S core n d t (need.TheVariants.End by) → Tells S e None None None None None
      → NodeStep S (next S e) core.0 n (record n { task = Some (stopped by t) }) None None → G M
  pub load_copy : (core : CoreId) (n : NodeParts) (d : TaskDecl) (t : TaskState) (word : WordId) (value : ℕ) (marked : Bool)
      → IsActing S core n d t (need.TheVariants.Load word) → entry_of n word.0 ≡ Some (Valid value marked)
      → Tells S e (Some (record { word = word; value = value })) None None None None
      → NodeStep S (next S e) core.0 n (retires (with_put n word (Valid value (marked || uses_plainly d word.0))) (loaded_of S.setting.program value t)) None None → G M
  pub load_own : (core : CoreId) (n : NodeParts) (d : TaskDecl) (t : TaskState) (word : WordId) (value : ℕ) (pending : Bool)
      → IsActing S core n d t (need.TheVariants.Load word) → entry_of n word.0 ≡ Some (Registered value pending)
      → Tells S e (Some (record { word = word; value = value })) None None None None
      → NodeStep S (next S e) core.0 n (retires (keeping n (touched word n.cache.pairs)) (loaded_of S.setting.program value t)) None None → G M
  -- a load, or a store of a part, of a word without entry; `needs` is either
  pub miss : (core : CoreId) (n : NodeParts) (d : TaskDecl) (t : TaskState) (word : WordId) (needs : Need)
      → (needs ≡ need.TheVariants.Load word) ⊎ (needs ≡ need.TheVariants.Store word false) → IsActing S core n d t needs
      → entry_of n word.0 ≡ None → has_room n.cache word.0 ≡ true → Tells S e None None None None None
      → NodeStep S (next S e) core.0 n (record n { waiting = wait.TheVariants.Reading word }) None (to_home S.setting.shape.banks word.0 (ReadReq word core)) → G M
  pub store_new : (core : CoreId) (n : NodeParts) (d : TaskDecl) (t : TaskState) (word : WordId) (value : ℕ)
      → IsActing S core n d t (need.TheVariants.Store word true) → entry_of n word.0 ≡ None → has_room n.cache word.0 ≡ true
      → value ≡ merged_of S.setting.program 0 t → Tells S e None None (Some (word, value)) None None
      → NodeStep S (next S e) core.0 n (stored S.setting n d t word (Registered value true)) None (to_home S.setting.shape.banks word.0 (RegReq word core))
      → G (stored_to (Some (word, value)) M)
  pub store_copy : (core : CoreId) (n : NodeParts) (d : TaskDecl) (t : TaskState) (word : WordId) (whole : Bool) (old value : ℕ) (marked : Bool)
      → IsActing S core n d t (need.TheVariants.Store word whole) → entry_of n word.0 ≡ Some (Valid old marked)
      → value ≡ merged_of S.setting.program old t → Tells S e None None (Some (word, value)) None None
      → NodeStep S (next S e) core.0 n (stored S.setting n d t word (Registered value true)) None (to_home S.setting.shape.banks word.0 (RegReq word core))
      → G (stored_to (Some (word, value)) M)
  pub store_own : (core : CoreId) (n : NodeParts) (d : TaskDecl) (t : TaskState) (word : WordId) (whole : Bool) (old value : ℕ) (pending : Bool)
      → IsActing S core n d t (need.TheVariants.Store word whole) → entry_of n word.0 ≡ Some (Registered old pending)
      → value ≡ merged_of S.setting.program old t → Tells S e None None (Some (word, value)) None None
      → NodeStep S (next S e) core.0 n (stored S.setting n d t word (Registered value pending)) None None
      → G (stored_to (Some (word, value)) M)
  pub acquire : (core : CoreId) (n : NodeParts) (d : TaskDecl) (t : TaskState) (lock : LockId) → IsActing S core n d t (need.TheVariants.Acquire lock)
      → Tells S e None None None None None
      → NodeStep S (next S e) core.0 n (record n { waiting = wait.TheVariants.Locking lock }) None (to_home S.setting.shape.banks lock.0 (Acquire lock core)) → G M
  pub release : (core : CoreId) (n : NodeParts) (d : TaskDecl) (t : TaskState) (lock : LockId) → IsActing S core n d t (need.TheVariants.Release lock)
      → is_settled n ≡ true → Tells S e None None None (Some (releases (record { phase = n.phase; core = core.0; place = retired_so_far n.task; lock = lock.0 }))) None
      → NodeStep S (next S e) core.0 n (record n { task = Some (advanced S.setting.program t) }) None (to_home S.setting.shape.banks lock.0 (Release lock core (signature_of n lock.0))) → G M
  -- evictions and arrivals; `needs` is a load or store of another word of that set
  pub evict_copy : (core : CoreId) (n : NodeParts) (word : WordId) (value : ℕ) (marked : Bool) → slice_get S.nodes core.0 ≡ Some n
      → is_active n ≡ true → n.waiting ≡ wait.TheVariants.None → entry_of n word.0 ≡ Some (Valid value marked) → Tells S e None None None None None
      → NodeStep S (next S e) core.0 n (lacking n word.0) None None → G M
  pub evict_own : (core : CoreId) (n : NodeParts) (word : WordId) (value : ℕ) → slice_get S.nodes core.0 ≡ Some n
      → is_active n ≡ true → n.waiting ≡ wait.TheVariants.None → entry_of n word.0 ≡ Some (Registered value false) → Tells S e None None None None None
      → NodeStep S (next S e) core.0 n (with_entry n word.0 (Leaving value)) None (to_home S.setting.shape.banks word.0 (WriteBack word value core)) → G M
  pub arrive : (core : CoreId) (n : NodeParts) → slice_get S.nodes core.0 ≡ Some n
      → n.halted ≡ false → n.arrived ≡ false → is_running n.task ≡ false → is_settled n ≡ true → Tells S e None None None (Some (arrives (record { phase = n.phase; core = core.0 }))) None
      → NodeStep S (next S e) core.0 n (record n { arrived = true }) None (to_keeper (Arrived core (task_ended_badly n.task))) → G M
  -- messages to a core
  pub reply : (core : CoreId) (n : NodeParts) (word : WordId) (value : ℕ) → slice_get S.nodes core.0 ≡ Some n
      → n.waiting ≡ wait.TheVariants.Reading word → entry_of n word.0 ≡ None → has_room n.cache word.0 ≡ true → Tells S e None None None None None
      → NodeStep S (next S e) core.0 n (record (keeping n (put word (Valid value false) n.cache.pairs)) { waiting = wait.TheVariants.Filled word }) (at_core core (DataReply word value)) None → G M
  pub acknowledge : (core : CoreId) (n : NodeParts) (word : WordId) (value : ℕ) → slice_get S.nodes core.0 ≡ Some n
      → entry_of n word.0 ≡ Some (Registered value true) → Tells S e None None None None None
      → NodeStep S (next S e) core.0 n (with_entry n word.0 (Registered value false)) (at_core core (RegAck word)) None → G M
  pub forward : (core other : CoreId) (n : NodeParts) (word : WordId) (value : ℕ) → slice_get S.nodes core.0 ≡ Some n
      → entry_of n word.0 ≡ Some (Registered value false) → Tells S e None None None None None
      → NodeStep S (next S e) core.0 n (lacking n word.0) (at_core core (RegFwd word other)) (to_core other (RegAck word)) → G M
  pub forward_past : (core other : CoreId) (n : NodeParts) (word : WordId) → slice_get S.nodes core.0 ≡ Some n
      → settled_bit (entry_of n word.0) ≡ 0 → Tells S e None None None None None
      → NodeStep S (next S e) core.0 n n (at_core core (RegFwd word other)) (to_core other (RegAck word)) → G M
  pub answer : (core reader : CoreId) (n : NodeParts) (word : WordId) (value : ℕ) → slice_get S.nodes core.0 ≡ Some n
      → owned_value (entry_of n word.0) ≡ Some value → Tells S e None None None None None
      → NodeStep S (next S e) core.0 n n (at_core core (ReadFwd word reader)) (to_core reader (DataReply word value)) → G M
  pub bounce : (core reader : CoreId) (n : NodeParts) (word : WordId) → slice_get S.nodes core.0 ≡ Some n
      → owned_value (entry_of n word.0) ≡ None → Tells S e None None None None None
      → NodeStep S (next S e) core.0 n n (at_core core (ReadFwd word reader)) (to_home S.setting.shape.banks word.0 (ReadReq word reader)) → G M
  pub freed : (core : CoreId) (n : NodeParts) (word : WordId) (value : ℕ) → slice_get S.nodes core.0 ≡ Some n
      → entry_of n word.0 ≡ Some (Leaving value) → Tells S e None None None None None
      → NodeStep S (next S e) core.0 n (lacking n word.0) (at_core core (WbAck word)) None → G M
  pub grant : (core : CoreId) (n : NodeParts) (d : TaskDecl) (t : TaskState) (lock : LockId) (s : Signature) → slice_get S.nodes core.0 ≡ Some n
      → n.waiting ≡ wait.TheVariants.Locking lock → n.task ≡ Some t → t.end ≡ None → declared S.setting.program n.phase core.0 ≡ Some d
      → need_of S.setting.program d S.setting.fuel t ≡ need.TheVariants.Acquire lock → n.halted ≡ false → n.arrived ≡ false
      → Tells S e None (Some (record { phase = record { 0 = n.phase }; core = core; lock = lock })) None (Some (acquires (record { phase = n.phase; core = core.0; place = retired_so_far n.task; lock = lock.0 }))) None
      → NodeStep S (next S e) core.0 n (holds_now S.setting n t lock s).0 (at_core core (Grant lock s)) None → G M
  pub go : (core : CoreId) (n : NodeParts) (phase : PhaseId) → slice_get S.nodes core.0 ≡ Some n → n.halted ≡ false → n.arrived ≡ true
      → phase.0 ≡ S.keeper.phase → phase.0 ≡ n.phase + 1 → phase.0 < length S.setting.program.phases → Tells S e None None None (Some (starts (record { phase = phase.0; core = core.0 }))) None
      → NodeStep S (next S e) core.0 n (begins S.setting n phase.0) (at_core core (Go phase)) None → G M
  pub halt : (core : CoreId) (n : NodeParts) → slice_get S.nodes core.0 ≡ Some n → n.halted ≡ false → n.arrived ≡ true → Tells S e None None None None None
      → NodeStep S (next S e) core.0 n (record n { halted = true }) (at_core core Halt) None → G M
  -- messages to a bank
  pub read_home : (bank : BankId) (word : WordId) (reader : CoreId) (value : ℕ) → home_at S word.0 ≡ Some (Home value) → Tells S e None None None None None
      → WordStep S (next S e) word.0 (Home value) (at_bank bank (ReadReq word reader)) (to_core reader (DataReply word value)) → G M
  pub read_owned : (bank : BankId) (word : WordId) (reader owner : CoreId) → home_at S word.0 ≡ Some (Reg owner) → Tells S e None None None None None
      → WordStep S (next S e) word.0 (Reg owner) (at_bank bank (ReadReq word reader)) (to_core owner (ReadFwd word reader)) → G M
  pub register_home : (bank : BankId) (word : WordId) (core : CoreId) (value : ℕ) → home_at S word.0 ≡ Some (Home value) → Tells S e None None None None None
      → WordStep S (next S e) word.0 (Reg core) (at_bank bank (RegReq word core)) (to_core core (RegAck word)) → G M
  pub register_owned : (bank : BankId) (word : WordId) (core owner : CoreId) → home_at S word.0 ≡ Some (Reg owner) → owner.0 ≢ core.0 → Tells S e None None None None None
      → WordStep S (next S e) word.0 (Reg core) (at_bank bank (RegReq word core)) (to_core owner (RegFwd word core)) → G M
  pub write_back : (bank : BankId) (word : WordId) (core : CoreId) (value : ℕ) → home_at S word.0 ≡ Some (Reg core) → Tells S e None None None None None
      → WordStep S (next S e) word.0 (Home value) (at_bank bank (WriteBack word value core)) (to_core core (WbAck word)) → G M
  pub write_past : (bank : BankId) (word : WordId) (core : CoreId) (value : ℕ) (content : BankWord) → home_at S word.0 ≡ Some content → owner_bit core.0 (Some content) ≡ 0
      → Tells S e None None None None None
      → WordStep S (next S e) word.0 content (at_bank bank (WriteBack word value core)) (to_core core (WbAck word)) → G M
  pub acquire_free : (bank : BankId) (lock : LockId) (core : CoreId) (h : Lock) → lock_at S lock.0 ≡ Some h → h.holder ≡ None → Tells S e None None None None (Some (record { core = core.0; lock = lock.0 }))
      → LockStep S (next S e) lock.0 (record h { holder = Some core }) (at_bank bank (Acquire lock core)) (to_core core (Grant lock h.kept)) → G M
  pub acquire_held : (bank : BankId) (lock : LockId) (core holder : CoreId) (h : Lock) → lock_at S lock.0 ≡ Some h → h.holder ≡ Some holder → Tells S e None None None None (Some (record { core = core.0; lock = lock.0 }))
      → LockStep S (next S e) lock.0 (record h { queue = h.queue ++ core ∷ [] }) (at_bank bank (Acquire lock core)) None → G M
  pub release_last : (bank : BankId) (lock : LockId) (core holder : CoreId) (s : Signature) (h : Lock) → lock_at S lock.0 ≡ Some h → h.holder ≡ Some holder → holder.0 ≡ core.0
      → h.queue ≡ [] → Tells S e None None None None None
      → LockStep S (next S e) lock.0 (record h { holder = None; kept = joined h.kept s }) (at_bank bank (Release lock core s)) None → G M
  pub release_on : (bank : BankId) (lock : LockId) (core holder waiter : CoreId) (others : List CoreId) (s : Signature) (h : Lock) → lock_at S lock.0 ≡ Some h
      → h.holder ≡ Some holder → holder.0 ≡ core.0 → h.queue ≡ waiter ∷ others → Tells S e None None None None None
      → LockStep S (next S e) lock.0 (record h { holder = Some waiter; queue = others; kept = joined h.kept s }) (at_bank bank (Release lock core s)) (to_core waiter (Grant lock (joined h.kept s))) → G M
  -- messages to the keeper
  pub arrived : (core : CoreId) (bad : Bool) → slice_get S.keeper.arrived core.0 ≡ Some false → all_arrived (with_arrival core.0 bad S.keeper) ≡ false → Tells S e None None None None None
      → BarrierStep S (next S e) (with_arrival core.0 bad S.keeper) (at_keeper (Arrived core bad)) None → G M
  pub all_go : (core : CoreId) (bad : Bool) → slice_get S.keeper.arrived core.0 ≡ Some false → all_arrived (with_arrival core.0 bad S.keeper) ≡ true
      → is_over (with_arrival core.0 bad S.keeper) ≡ false → Tells S e None None None None None
      → BarrierStep S (next S e) (in_next_phase (with_arrival core.0 bad S.keeper)) (at_keeper (Arrived core bad)) (Some (Go (record { 0 = S.keeper.phase + 1 }))) → G M
  pub all_halt : (core : CoreId) (bad : Bool) → slice_get S.keeper.arrived core.0 ≡ Some false → all_arrived (with_arrival core.0 bad S.keeper) ≡ true
      → is_over (with_arrival core.0 bad S.keeper) ≡ true → Tells S e None None None None None
      → BarrierStep S (next S e) (with_arrival core.0 bad S.keeper) (at_keeper (Arrived core bad)) (Some Halt) → G M
