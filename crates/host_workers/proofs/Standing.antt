-- What an event makes of how a core's task stands: before the core arrives at the barrier, as it arrives, and then until its next
-- phase begins.
use Rattle.std.proofs.Common.{◌≡◌, ◌⊎◌, inl, inr, ℕ, ◌+◌, ◌==◌, Bool, true, false, cond, not, nat_lt, ◌&&◌, length, Option, Some, None, refl, ap, ◌∙◌, arith}
use Rattle.std.specs.Option.{option_map}
use Rattle.std.proofs.lemmas.Bool.Decides.{nat_tests}
use Rattle.dn_base.specs.declared.ids.LockId.{LockId}
use Rattle.dn_base.specs.declared.ids.WordId.{WordId}
use Rattle.region_table.specs.declared.declared.TaskDecl.{TaskDecl}
use Rattle.region_table.specs.Tasks.{declared}
use Rattle.rv_core.specs.declared.ending.EndShown.{EndShown}
use Rattle.rv_core.specs.declared.task.End.{End}
use Rattle.rv_core.specs.declared.task.TaskState.{TaskState}
use Rattle.rv_core.specs.Task.{started}
use Rattle.write_signature.specs.declared.signature.Signature.{Signature}
use Rattle.message_net.specs.declared.message.Message as message
use Rattle.message_net.specs.declared.message.Message.{Message}
use Rattle.word_cache.specs.Cache.{has_room, put}
use Rattle.word_cache.specs.declared.row.Entry.{Entry}
use Rattle.word_cache.specs.declared.row.Entry.TheVariants.{Valid}
use Rattle.registration_protocol.specs.Changes.{KeepsPhase, KeepsTask}
use Rattle.registration_protocol.specs.Messages.{node_gets, becomes, fills, data_reply_row, granted_to, grant_row, begins, go_row, halt_row}
use Rattle.registration_protocol.specs.Node.{NodeParts, Setting, is_running, entry_of, keeping}
use Rattle.registration_protocol.specs.OwnEvents.{shown_by, end_by, end_of, may_arrive, arrives, may_instr, instructed, evicted}
use Rattle.registration_protocol.specs.declared.node.NodeWait as wait
use Rattle.registration_protocol.specs.declared.node.NodeWait.{NodeWait}
use Rattle.registration_protocol.proofs.InstrLemmas.{may-instruct, may-arrive}
use Rattle.registration_protocol.proofs.MessageLemmas.{ack-kept, forward-kept, read-kept, back-kept}
use Rattle.registration_protocol.proofs.PhaseLemmas.{instr-phase, evict-keeps}
use Rattle.host_workers.specs.Ends.{node_standing}

-- ---- what becomes of a node

-- it stays in its phase, at the barrier or not as before; and at the barrier its task stands as before
pub record Stays (n m : NodeParts) : Type 0 where
  pub phase : m.phase ≡ n.phase
  pub arrived : m.arrived ≡ n.arrived
  pub shown : n.arrived ≡ true → node_standing m ≡ node_standing n

-- it goes on from the barrier to the next phase
pub record Begins (n m : NodeParts) : Type 0 where
  pub arrived : n.arrived ≡ true
  pub phase : m.phase ≡ n.phase + 1
  pub absent : m.arrived ≡ false
  pub shown : node_standing m ≡ None

-- it arrives at the barrier, where it has no task that goes on
pub record Arrives (n m : NodeParts) : Type 0 where
  pub absent : n.arrived ≡ false
  pub phase : m.phase ≡ n.phase
  pub arrived : m.arrived ≡ true
  pub shown : node_standing m ≡ node_standing n
  pub ended : node_standing n ≡ None → n.task ≡ None

-- ---- a task stands as before where its node keeps it

standing-same : (n m : NodeParts) → m.core ≡ n.core → m.phase ≡ n.phase → m.task ≡ n.task → m.waiting ≡ n.waiting → node_standing m ≡ node_standing n
standing-same n m core phase task waiting = ap (end_of m) task ∙ by_task n.task where
  by_shown : (t : TaskState) (o : Option EndShown) → end_by m t o ≡ end_by n t o
  by_shown t None = refl
  by_shown t (Some e) = rw (core, phase) refl

  by_task : (o : Option TaskState) → end_of m o ≡ end_of n o
  by_task None = refl
  by_task (Some t) = ap (λ (w : NodeWait). end_by m t (shown_by t.end w)) waiting ∙ by_shown t (shown_by t.end n.waiting)

stays-same : (n : NodeParts) → Stays n n
stays-same n = record { phase = refl; arrived = refl; shown = λ here. refl }

stays-kept : (n m : NodeParts) → KeepsTask n m → Stays n m
stays-kept n m k =
    record { phase = k.phase_kept.phase; arrived = k.phase_kept.arrived; shown = λ here. standing-same n m k.phase_kept.core k.phase_kept.phase k.task k.waiting }

-- a node that isn't at the barrier
stays-absent : (n m : NodeParts) → n.arrived ≡ false → KeepsPhase n m → Stays n m
stays-absent n m absent k = record { phase = k.phase; arrived = k.arrived; shown = λ here. absurd (cc) }

-- ---- its own events

pub instr-stays : (C : Setting) (n : NodeParts) → may_instr C n ≡ true → Stays n (instructed C n).0
instr-stays C n may = stays-absent n (instructed C n).0 (may-instruct C n may).arrived (instr-phase C n)

pub evict-stays : (C : Setting) (n : NodeParts) (word : WordId) → Stays n (evicted C n word).0
evict-stays C n word = stays-kept n (evicted C n word).0 (evict-keeps C n word)

-- a task that shows nothing and doesn't go on isn't there
no-task : (n : NodeParts) → is_running n.task ≡ false → node_standing n ≡ None → n.task ≡ None
no-task n over none = by_task n.task refl over none where
  by_end : (t : TaskState) (e : Option End) → n.task ≡ Some t → t.end ≡ e → is_running (Some t) ≡ false → end_by n t (shown_by e n.waiting) ≡ None → n.task ≡ None
  by_end t None is ends over none = let going : is_running (Some t) ≡ true = rw (ends) refl in absurd (cc)
  by_end t (Some e) is ends over none = absurd (cc)

  by_task : (o : Option TaskState) → n.task ≡ o → is_running o ≡ false → end_of n o ≡ None → n.task ≡ None
  by_task None is over none = is
  by_task (Some t) is over none = by_end t t.end is refl over none

pub arrive-arrives : (n : NodeParts) → may_arrive n ≡ true → Arrives n (arrives n).0
arrive-arrives n may =
    let may_it = may-arrive n may in
    record {
      absent = may_it.arrived;
      phase = refl;
      arrived = refl;
      shown = standing-same n (arrives n).0 refl refl refl refl;
      ended = no-task n may_it.done;
    }

-- ---- a message

-- at the barrier a node waits for nothing
abbrev pub RestsThere : NodeParts → Type 0
RestsThere n = n.arrived ≡ true → n.waiting ≡ wait.TheVariants.None

data-stays : (n : NodeParts) (word : WordId) (value : ℕ) → RestsThere n → Stays n (data_reply_row n word value n.waiting).0
data-stays n word value rests = by_wait n.waiting refl where
  filled : (wanted : WordId) → n.waiting ≡ wait.TheVariants.Reading wanted → Stays n (record (keeping n (put word (Valid value false) n.cache.pairs)) { waiting = wait.TheVariants.Filled word })
  filled wanted is = record { phase = refl; arrived = refl; shown = λ here. (let none = rests here in absurd (cc)) }

  by_room : (wanted : WordId) → n.waiting ≡ wait.TheVariants.Reading wanted → (t : Bool)
      → Stays n (cond t (becomes (record (keeping n (put word (Valid value false) n.cache.pairs)) { waiting = wait.TheVariants.Filled word })) (becomes n)).0
  by_room wanted is true = filled wanted is
  by_room wanted is false = stays-same n

  by_entry : (wanted : WordId) → n.waiting ≡ wait.TheVariants.Reading wanted → (e : Option Entry) → Stays n (fills n word value e).0
  by_entry wanted is None = by_room wanted is (has_room n.cache word.0)
  by_entry wanted is (Some e) = stays-same n

  by_test : (wanted : WordId) → n.waiting ≡ wait.TheVariants.Reading wanted → (t : Bool) → Stays n (cond t (fills n word value (entry_of n word.0)) (becomes n)).0
  by_test wanted is true = by_entry wanted is (entry_of n word.0)
  by_test wanted is false = stays-same n

  by_wait : (w : NodeWait) → n.waiting ≡ w → Stays n (data_reply_row n word value w).0
  by_wait wait.TheVariants.None is = stays-same n
  by_wait (wait.TheVariants.Reading wanted) is = by_test wanted is (wanted.0 == word.0)
  by_wait (wait.TheVariants.Filled it) is = stays-same n
  by_wait (wait.TheVariants.Locking lock) is = stays-same n

grant-stays : (C : Setting) (n : NodeParts) (lock : LockId) (signature : Signature) → RestsThere n → Stays n (grant_row C n lock signature n.waiting).0
grant-stays C n lock signature rests = by_wait n.waiting refl where
  by_task : (wanted : LockId) → n.waiting ≡ wait.TheVariants.Locking wanted → (o : Option TaskState) → Stays n (granted_to C n lock signature o).0
  by_task wanted is None = stays-same n
  by_task wanted is (Some t) = record { phase = refl; arrived = refl; shown = λ here. (let none = rests here in absurd (cc)) }

  by_test : (wanted : LockId) → n.waiting ≡ wait.TheVariants.Locking wanted → (t : Bool) → Stays n (cond t (granted_to C n lock signature n.task) (becomes n)).0
  by_test wanted is true = by_task wanted is n.task
  by_test wanted is false = stays-same n

  by_wait : (w : NodeWait) → n.waiting ≡ w → Stays n (grant_row C n lock signature w).0
  by_wait wait.TheVariants.None is = stays-same n
  by_wait (wait.TheVariants.Reading word) is = stays-same n
  by_wait (wait.TheVariants.Filled word) is = stays-same n
  by_wait (wait.TheVariants.Locking wanted) is = by_test wanted is (wanted.0 == lock.0)

-- a task that has just begun shows nothing
begins-standing : (C : Setting) (n : NodeParts) (phase : ℕ) → node_standing (begins C n phase) ≡ None
begins-standing C n phase = by_decl (declared C.program phase n.core) where
  by_decl : (o : Option TaskDecl) → end_of (begins C n phase) (option_map started o) ≡ None
  by_decl None = refl
  by_decl (Some d) = refl

-- whether a node may go on
abbrev may_go_on : Setting → NodeParts → ℕ → Bool
may_go_on C n phase = n.arrived && not n.halted && (phase == n.phase + 1) && nat_lt phase (length C.program.phases)

go-on : (C : Setting) (n : NodeParts) (phase : ℕ) → Stays n (go_row C n phase).0 ⊎ Begins n (go_row C n phase).0
go-on C n phase = by_test (may_go_on C n phase) refl where
  by_test : (t : Bool) → may_go_on C n phase ≡ t
      → Stays n (cond t (becomes (begins C n phase)) (becomes n)).0 ⊎ Begins n (cond t (becomes (begins C n phase)) (becomes n)).0
  by_test true may =
      inr (record { arrived = grind (arith, nat_tests, may); phase = grind (arith, nat_tests, may); absent = refl; shown = begins-standing C n phase })
  by_test false may = inl (stays-same n)

halt-stays : (n : NodeParts) → Stays n (halt_row n).0
halt-stays n = by_test n.arrived where
  by_test : (t : Bool) → Stays n (cond t (becomes (record n { halted = true })) (becomes n)).0
  by_test true = record { phase = refl; arrived = refl; shown = λ here. standing-same n (record n { halted = true }) refl refl refl refl }
  by_test false = stays-same n

pub gets-on : (C : Setting) (n : NodeParts) (m : Message) → RestsThere n → Stays n (node_gets C n m).0 ⊎ Begins n (node_gets C n m).0
unfolding node_gets
gets-on C n (message.TheVariants.ReadReq word reader) rests = inl (stays-same n)
gets-on C n (message.TheVariants.ReadFwd word reader) rests = inl (stays-kept n (node_gets C n (message.TheVariants.ReadFwd word reader)).0 (read-kept C n word reader))
gets-on C n (message.TheVariants.DataReply word value) rests = inl (data-stays n word value rests)
gets-on C n (message.TheVariants.RegReq word core) rests = inl (stays-same n)
gets-on C n (message.TheVariants.RegFwd word core) rests = inl (stays-kept n (node_gets C n (message.TheVariants.RegFwd word core)).0 (forward-kept C n word core))
gets-on C n (message.TheVariants.RegAck word) rests = inl (stays-kept n (node_gets C n (message.TheVariants.RegAck word)).0 (ack-kept C n word))
gets-on C n (message.TheVariants.WriteBack word value core) rests = inl (stays-same n)
gets-on C n (message.TheVariants.WbAck word) rests = inl (stays-kept n (node_gets C n (message.TheVariants.WbAck word)).0 (back-kept C n word))
gets-on C n (message.TheVariants.Acquire lock core) rests = inl (stays-same n)
gets-on C n (message.TheVariants.Release lock core signature) rests = inl (stays-same n)
gets-on C n (message.TheVariants.Grant lock signature) rests = inl (grant-stays C n lock signature rests)
gets-on C n (message.TheVariants.Arrived core bad) rests = inl (stays-same n)
gets-on C n (message.TheVariants.Go phase) rests = go-on C n phase.0
gets-on C n message.TheVariants.Halt rests = inl (halt-stays n)
