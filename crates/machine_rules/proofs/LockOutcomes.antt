-- Every event keeps what is known of locks.
use Rattle.std.proofs.Common.{◌≡◌, ℕ, zero, suc, ◌+◌, ◌%◌, ◌≤◌, ◌==◌, ◌&&◌, ◌||◌, not, nat_lt, Bool, true, false, [], ◌∷◌, ◌++◌, slice_get, Option, Some, None, refl, sym, ap, subst, ◌∙◌, arith}
use Rattle.std.proofs.lemmas.Bool.{eqb-true}
use Rattle.std.proofs.lemmas.Bool.Decides.{nat_tests}
use Rattle.std.specs.Option.{option_map}
use Rattle.dn_base.specs.declared.ids.WordId.{WordId}
use Rattle.dn_base.specs.declared.ids.CoreId.{CoreId}
use Rattle.dn_base.specs.declared.ids.LockId.{LockId}
use Rattle.dn_base.specs.declared.ids.PhaseId.{PhaseId}
use Rattle.region_table.specs.declared.declared.TaskDecl.{TaskDecl}
use Rattle.region_table.specs.Tasks.{declared}
use Rattle.rv_core.specs.declared.task.TaskState.{TaskState}
use Rattle.rv_core.specs.declared.need.Need as need
use Rattle.rv_core.specs.declared.need.Need.{Need}
use Rattle.rv_core.specs.Access.{is_held}
use Rattle.rv_core.specs.Need.{need_of}
use Rattle.rv_core.specs.Step.{advanced, loaded_of}
use Rattle.rv_core.specs.Task.{started, stopped}
use Rattle.rv_core.proofs.Completions.{advanced-held, loaded-held, stopped-held, acquire-allowed, release-allowed}
use Rattle.rv_core.proofs.HeldLemmas.{holds-acquired, holds-released}
use Rattle.write_signature.specs.declared.signature.Signature.{Signature}
use Rattle.write_signature.specs.Signature.{tag, joined}
use Rattle.message_net.specs.declared.actor.Actor.{Actor}
use Rattle.message_net.specs.declared.actor.Actor.TheVariants.{Core, Bank, Keeper}
use Rattle.message_net.specs.declared.event.Event.{Event}
use Rattle.message_net.specs.declared.message.Message.{Message}
use Rattle.message_net.specs.declared.message.Message.TheVariants.{ReadReq, ReadFwd, DataReply, RegReq, RegFwd, RegAck, WriteBack, WbAck, Acquire, Release, Grant, Arrived, Go, Halt}
use Rattle.message_net.specs.declared.message.Outgoing.{Outgoing}
use Rattle.message_net.specs.Mail.{to_home, to_core, to_keeper}
use Rattle.queue_lock.specs.Lock.{Lock, holder_count}
use Rattle.queue_lock.proofs.RowLemmas.{holder-within}
use Rattle.registry_bank.specs.declared.bank.BankWord.{BankWord}
use Rattle.phase_barrier.specs.Barrier.{Barrier}
use Rattle.registration_protocol.specs.declared.node.NodeWait as wait
use Rattle.registration_protocol.specs.declared.node.NodeWait.{NodeWait}
use Rattle.registration_protocol.specs.Node.{NodeParts, signature_of, is_ready}
use Rattle.registration_protocol.specs.OwnEvents.{task_ended_badly}
use Rattle.registration_protocol.specs.Messages.{holds_now}
use Rattle.registration_protocol.specs.Parts.{held_locks}
use Rattle.registration_protocol.proofs.SignLemmas.{signature-tag}
use Rattle.machine_rules.specs.State.{State, lock_at}
use Rattle.machine_rules.specs.Flight.{Test, bit, flight, is_acquire_of, is_release_of, is_grant_to, is_go_to}
use Rattle.machine_rules.specs.Next.{next}
use Rattle.machine_rules.specs.Coherent.{has_lock, is_locking, node_is_locking, queued_in, holder_in}
use Rattle.machine_rules.proofs.Bits.{passes}
use Rattle.machine_rules.proofs.Invariant.{Invariant, LocksGood, LockRow, lock_counts, is_late, is_unlike}
use Rattle.machine_rules.proofs.Steps.{NodeStep}
use Rattle.machine_rules.proofs.Outcomes.{Outcomes, IsActing, WordStep, LockStep, BarrierStep, to_all, at_core, at_bank, at_keeper}
use Rattle.machine_rules.proofs.Exclusive.{in-phase, acting-works}
use Rattle.machine_rules.proofs.PhaseWhole.{nothing-posted, none-posted}
use Rattle.machine_rules.proofs.WordCore.{same-number}
use Rattle.machine_rules.proofs.LockRows.{LockFlows, lock-flows, lock-core, quiet-rows, acquire-rows, release-rows, grant-rows}
use Rattle.machine_rules.proofs.LockHomes.{LockHome, free-rows, held-rows, last-rows, on-rows}
use Rattle.machine_rules.proofs.LockSigns.{Signs, signs-of, with-rows, signs-stay, no-more, same-sign, no-grants, later-le, signs-kept, signs-joined}

-- ---- a core's events

-- the signatures after a core's event that sends neither a grant nor a late release
node-signs : (S T : State) {core : ℕ} {n m : NodeParts} {left sent : Option Outgoing} → NodeStep S T core n m left sent → LocksGood S
    → passes (is_late S.keeper.phase) sent ≡ 0 → ((l : ℕ) (s : Signature) → passes (is_unlike l s) sent ≡ 0) → Signs T
node-signs S T {left = left} {sent = sent} step g late unlike =
    signs-stay S T (signs-of S g) (λ l. rw (step.setting, step.banks) refl) (rw (step.keeper) refl)
    (no-more S T left sent (is_late S.keeper.phase) step.flown late) (λ l s. no-more S T left sent (is_unlike l s) step.flown (unlike l s))

-- a core's event that leaves what its task holds and whether its node waits for a lock
quiet-node : (S T : State) {core : ℕ} {n m : NodeParts} {left sent : Option Outgoing} → NodeStep S T core n m left sent → LocksGood S
    → held_locks m.task ≡ held_locks n.task → ((l : ℕ) → is_locking l m.waiting ≡ is_locking l n.waiting) → ((l d : ℕ) → LockFlows S T None None l d)
    → passes (is_late S.keeper.phase) sent ≡ 0 → ((l : ℕ) (s : Signature) → passes (is_unlike l s) sent ≡ 0) → LocksGood T
quiet-node S T {core = core} {n = n} {m = m} {left = left} {sent = sent} step g held waits aside late unlike =
    with-rows T (quiet-rows S T core n m left sent (lock-core S T step) g (λ l. ap (λ (x : ℕ). is_held x l) held) waits aside) (node-signs S T step g late unlike)

-- what an acting task holds
held-now : (S : State) (core : CoreId) (n : NodeParts) (d : TaskDecl) (t : TaskState) (x : Need) → IsActing S core n d t x → held_locks n.task ≡ t.held
held-now S core n d t x acts = ap held_locks acts.task

-- a node that goes on waits for no lock
ready-unlocked : (waiting : NodeWait) (l : ℕ) → is_ready waiting ≡ true → is_locking l waiting ≡ false
ready-unlocked wait.TheVariants.None l ready = refl
ready-unlocked (wait.TheVariants.Reading word) l ready = absurd (cc)
ready-unlocked (wait.TheVariants.Filled word) l ready = refl
ready-unlocked (wait.TheVariants.Locking lock) l ready = absurd (cc)

-- an instruction that holds what it held
kept-node : (S T : State) (core : CoreId) (n m : NodeParts) (d : TaskDecl) (t : TaskState) (x : Need) {sent : Option Outgoing} → IsActing S core n d t x → NodeStep S T core.0 n m None sent → LocksGood S
    → held_locks m.task ≡ t.held → ((l : ℕ) → is_locking l m.waiting ≡ false) → ((l d : ℕ) → LockFlows S T None None l d)
    → passes (is_late S.keeper.phase) sent ≡ 0 → ((l : ℕ) (s : Signature) → passes (is_unlike l s) sent ≡ 0) → LocksGood T
kept-node S T core n m d t x acts step g held waits aside late unlike =
    quiet-node S T step g (held ∙ sym (held-now S core n d t x acts)) (λ l. waits l ∙ sym (ready-unlocked n.waiting l acts.ready)) aside late unlike

-- ---- homes

lock-home : (S T : State) (lock : LockId) (h k : Lock) {left sent : Option Outgoing} → LockStep S T lock.0 k left sent → lock_at S lock.0 ≡ Some h
    → ((l d : ℕ) → (lock.0 == l) ≡ false → LockFlows S T None None l d) → LockHome S T lock h k left sent
lock-home S T lock h k {left = left} {sent = sent} step was aside =
    record {
      was = was;
      now = step.locks;
      holding = λ l d. rw (step.nodes) refl;
      waiting = λ l d. rw (step.nodes) refl;
      flows = lock-flows S T left sent step.flown;
      aside = aside;
    }

-- an event of a word's home
word-quiet : (S T : State) → T.setting ≡ S.setting → T.nodes ≡ S.nodes → T.keeper ≡ S.keeper → ((l : ℕ) → lock_at T l ≡ lock_at S l) → LocksGood S
    → ((l d : ℕ) → LockFlows S T None None l d) → flight T (is_late S.keeper.phase) ≤ flight S (is_late S.keeper.phase) → ((l : ℕ) (s : Signature) → flight T (is_unlike l s) ≤ flight S (is_unlike l s)) → LocksGood T
word-quiet S T setting nodes keeper locks g aside late unlike =
    with-rows T rows (signs-stay S T (signs-of S g) locks (rw (keeper) refl) late unlike)
  where
    rows : (l c : ℕ) → LockRow (lock_counts T l c)
    rows l c =
        let holding : bit (has_lock T c l) ≡ bit (has_lock S c l) = rw (nodes) refl in
        let waiting : bit (node_is_locking l (slice_get T.nodes c)) ≡ bit (node_is_locking l (slice_get S.nodes c)) = rw (nodes) refl in
        omega (arith, g.row l c, aside l c, holding, waiting, ap (queued_in c) (locks l), ap (holder_in c) (locks l))

by-word : (S T : State) {w : ℕ} {content : BankWord} {left sent : Option Outgoing} → WordStep S T w content left sent → LocksGood S
    → ((l d : ℕ) → LockFlows S T None None l d) → passes (is_late S.keeper.phase) sent ≡ 0 → ((l : ℕ) (s : Signature) → passes (is_unlike l s) sent ≡ 0) → LocksGood T
by-word S T {left = left} {sent = sent} step g aside late unlike =
    word-quiet S T step.setting step.nodes step.keeper step.locks g aside
    (no-more S T left sent (is_late S.keeper.phase) step.flown late) (λ l s. no-more S T left sent (is_unlike l s) step.flown (unlike l s))

-- ---- the keeper

-- a test that the barrier's messages fail
record IsOfLocks (p : Test) : Type 0 where
  pub arrived : (to : Actor) (core : CoreId) (bad : Bool) → p to (Arrived core bad) ≡ false
  pub go : (to : Actor) (phase : PhaseId) → p to (Go phase) ≡ false
  pub halt : (to : Actor) → p to Halt ≡ false

is-acquires : (l c : ℕ) → IsOfLocks (is_acquire_of l c)
is-acquires l c = record { arrived = λ to core bad. refl; go = λ to phase. refl; halt = λ to. refl }

is-releases : (l c : ℕ) → IsOfLocks (is_release_of l c)
is-releases l c = record { arrived = λ to core bad. refl; go = λ to phase. refl; halt = λ to. refl }

is-grants : (l c : ℕ) → IsOfLocks (is_grant_to l c)
is-grants l c = record { arrived = λ to core bad. refl; go = λ to phase. refl; halt = λ to. refl }

is-late : (p : ℕ) → IsOfLocks (is_late p)
is-late p = record { arrived = λ to core bad. refl; go = λ to phase. refl; halt = λ to. refl }

is-unlike : (l : ℕ) (s : Signature) → IsOfLocks (is_unlike l s)
is-unlike l s = record { arrived = λ to core bad. refl; go = λ to phase. refl; halt = λ to. refl }

-- the keeper's letters are of no lock
barrier-flows : (S T : State) {k : Barrier} {left : Option Outgoing} {sent : Option Message} → BarrierStep S T k left sent
    → ((p : Test) → IsOfLocks p → passes p left ≡ 0) → ((p : Test) → IsOfLocks p → to_all p S.setting.shape.cores sent ≡ 0) → (p : Test) → IsOfLocks p → flight T p ≡ flight S p
barrier-flows S T step came posted p of = omega (arith, step.flown p, came p of, posted p of)

barrier-rows : (S T : State) {k : Barrier} {left : Option Outgoing} {sent : Option Message} → BarrierStep S T k left sent → LocksGood S
    → ((p : Test) → IsOfLocks p → flight T p ≡ flight S p) → (l c : ℕ) → LockRow (lock_counts T l c)
barrier-rows S T step g same l c =
    let holding : bit (has_lock T c l) ≡ bit (has_lock S c l) = rw (step.nodes) refl in
    let waiting : bit (node_is_locking l (slice_get T.nodes c)) ≡ bit (node_is_locking l (slice_get S.nodes c)) = rw (step.nodes) refl in
    let locks : lock_at T l ≡ lock_at S l = rw (step.setting, step.banks) refl in
    omega (
      arith,
      g.row l c,
      same (is_acquire_of l c) (is-acquires l c),
      same (is_release_of l c) (is-releases l c),
      same (is_grant_to l c) (is-grants l c),
      holding,
      waiting,
      ap (queued_in c) locks,
      ap (holder_in c) locks,
    )

-- the phase stays, or the next one begins
barrier-signs : (S T : State) {k : Barrier} {left : Option Outgoing} {sent : Option Message} → BarrierStep S T k left sent → LocksGood S → (more : ℕ) → k.phase ≡ S.keeper.phase + more → more ≤ 1
    → ((p : Test) → IsOfLocks p → flight T p ≡ flight S p) → Signs T
barrier-signs S T step g more phase one same =
    record {
      kept = λ l h is. rw (now) (omega (arith, g.kept l h (sym (locks l) ∙ is)));
      released = rw (now) (by_more more refl one);
      granted = λ l h is. omega (arith, same (is_unlike l h.kept) (is-unlike l h.kept), g.granted l h (sym (locks l) ∙ is));
    }
  where
    now : T.keeper.phase ≡ S.keeper.phase + more
    now = ap (λ (x : Barrier). x.phase) step.keeper ∙ phase

    locks : (l : ℕ) → lock_at T l ≡ lock_at S l
    locks l = rw (step.setting, step.banks) refl

    by_more : (x : ℕ) → more ≡ x → x ≤ 1 → flight T (is_late (S.keeper.phase + more)) ≡ 0
    by_more zero is few =
        let same_phase : S.keeper.phase + more ≡ S.keeper.phase = omega (arith, is) in
        rw (same_phase) (omega (arith, same (is_late S.keeper.phase) (is-late S.keeper.phase), g.released))
    by_more (suc x) is few =
        let next_phase : S.keeper.phase + more ≡ S.keeper.phase + 1 = omega (arith, is, few) in
        rw (next_phase) (omega (arith, same (is_late (S.keeper.phase + 1)) (is-late (S.keeper.phase + 1)), later-le S S.keeper.phase, g.released))

pub locks-outcomes : (S : State) (M : ℕ → ℕ) (e : Event) → Invariant S M → Outcomes S M e (λ _. LocksGood (next S e))
locks-outcomes S M e inv =
    record {
      local = λ core n d t acts told step.
          kept-node S (next S e) core n (record n { task = Some (advanced S.setting.program t) }) d t need.TheVariants.Local acts step g
          (advanced-held S.setting.program d S.setting.fuel t need.TheVariants.Local acts.wants tt) (λ l. ready-unlocked n.waiting l acts.ready) (lock-flows S (next S e) None None step.flown) refl (λ l s. refl);
      ends = λ core n d t by acts told step.
          kept-node S (next S e) core n (record n { task = Some (stopped by t) }) d t (need.TheVariants.End by) acts step g
          (stopped-held by t) (λ l. ready-unlocked n.waiting l acts.ready) (lock-flows S (next S e) None None step.flown) refl (λ l s. refl);
      load_copy = λ core n d t word value marked acts is told step.
          kept-node S (next S e) core n _ d t (need.TheVariants.Load word) acts step g (load-held core n d t word value acts) (λ l. refl) (lock-flows S (next S e) None None step.flown) refl (λ l s. refl);
      load_own = λ core n d t word value pending acts is told step.
          kept-node S (next S e) core n _ d t (need.TheVariants.Load word) acts step g (load-held core n d t word value acts) (λ l. refl) (lock-flows S (next S e) None None step.flown) refl (λ l s. refl);
      miss = λ core n d t word needs either acts none room told step.
          kept-node S (next S e) core n (record n { waiting = wait.TheVariants.Reading word }) d t needs acts step g (held-now S core n d t needs acts) (λ l. refl)
          (lock-flows S (next S e) None (to_home S.setting.shape.banks word.0 (ReadReq word core)) step.flown) refl (λ l s. refl);
      store_new = λ core n d t word value acts none room is told step.
          kept-node S (next S e) core n _ d t (need.TheVariants.Store word true) acts step g (store-held core n d t word true acts) (λ l. refl)
          (lock-flows S (next S e) None (to_home S.setting.shape.banks word.0 (RegReq word core)) step.flown) refl (λ l s. refl);
      store_copy = λ core n d t word whole old value marked acts was is told step.
          kept-node S (next S e) core n _ d t (need.TheVariants.Store word whole) acts step g (store-held core n d t word whole acts) (λ l. refl)
          (lock-flows S (next S e) None (to_home S.setting.shape.banks word.0 (RegReq word core)) step.flown) refl (λ l s. refl);
      store_own = λ core n d t word whole old value pending acts was is told step.
          kept-node S (next S e) core n _ d t (need.TheVariants.Store word whole) acts step g (store-held core n d t word whole acts) (λ l. refl) (lock-flows S (next S e) None None step.flown) refl (λ l s. refl);
      acquire = λ core n d t lock acts told step.
          with-rows (next S e)
          (acquire-rows S (next S e) core n (record n { waiting = wait.TheVariants.Locking lock }) lock (record { 0 = lock.0 % S.setting.shape.banks }) (lock-core S (next S e) step) g
          (λ l. refl) (λ l. ready-unlocked n.waiting l acts.ready) (λ l. refl))
          (node-signs S (next S e) step g refl (λ l s. refl));
      release = λ core n d t lock acts settled told step.
          let s = signature_of n lock.0 in
          with-rows (next S e)
          (release-rows S (next S e) core n (record n { task = Some (advanced S.setting.program t) }) lock s (record { 0 = lock.0 % S.setting.shape.banks }) (lock-core S (next S e) step) g
          (had core n d t lock acts) (given core n d t lock acts) (λ l. refl))
          (node-signs S (next S e) step g (timely core n d t lock acts) (λ l s. refl));
      evict_copy = λ core n word value marked found active waits is told step.
          quiet-node S (next S e) step g refl (λ l. refl) (lock-flows S (next S e) None None step.flown) refl (λ l s. refl);
      evict_own = λ core n word value found active waits is told step.
          quiet-node S (next S e) step g refl (λ l. refl) (lock-flows S (next S e) None (to_home S.setting.shape.banks word.0 (WriteBack word value core)) step.flown) refl (λ l s. refl);
      arrive = λ core n found awake absent over settled told step.
          quiet-node S (next S e) step g refl (λ l. refl) (lock-flows S (next S e) None (to_keeper (Arrived core (task_ended_badly n.task))) step.flown) refl (λ l s. refl);
      reply = λ core n word value found waits none room told step.
          quiet-node S (next S e) step g refl (λ l. rw (waits) refl) (lock-flows S (next S e) (at_core core (DataReply word value)) None step.flown) refl (λ l s. refl);
      acknowledge = λ core n word value found is told step.
          quiet-node S (next S e) step g refl (λ l. refl) (lock-flows S (next S e) (at_core core (RegAck word)) None step.flown) refl (λ l s. refl);
      forward = λ core other n word value found is told step.
          quiet-node S (next S e) step g refl (λ l. refl) (lock-flows S (next S e) (at_core core (RegFwd word other)) (to_core other (RegAck word)) step.flown) refl (λ l s. refl);
      forward_past = λ core other n word found unsettled told step.
          quiet-node S (next S e) step g refl (λ l. refl) (lock-flows S (next S e) (at_core core (RegFwd word other)) (to_core other (RegAck word)) step.flown) refl (λ l s. refl);
      answer = λ core reader n word value found is told step.
          quiet-node S (next S e) step g refl (λ l. refl) (lock-flows S (next S e) (at_core core (ReadFwd word reader)) (to_core reader (DataReply word value)) step.flown) refl (λ l s. refl);
      bounce = λ core reader n word found is told step.
          quiet-node S (next S e) step g refl (λ l. refl) (lock-flows S (next S e) (at_core core (ReadFwd word reader)) (to_home S.setting.shape.banks word.0 (ReadReq word reader)) step.flown) refl (λ l s. refl);
      freed = λ core n word value found is told step.
          quiet-node S (next S e) step g refl (λ l. refl) (lock-flows S (next S e) (at_core core (WbAck word)) None step.flown) refl (λ l s. refl);
      grant = λ core n d t lock s found waits has going declares wants awake absent told step.
          with-rows (next S e)
          (grant-rows S (next S e) core n (holds_now S.setting n t lock s).0 lock s (lock-core S (next S e) step) g
          (lacked n d t lock has wants) (got n d t lock s has wants) (λ l. rw (waits) refl) (λ l. refl))
          (node-signs S (next S e) step g refl (λ l s. refl));
      go = λ core n phase found awake absent right next_is within told step.
          quiet-node S (next S e) step g (idle core n phase found (step.flown (is_go_to core.0)))
          (λ l. sym (rw ((inv.phases.arrived core.0 n found absent).waiting) refl)) (lock-flows S (next S e) (at_core core (Go phase)) None step.flown) refl (λ l s. refl);
      halt = λ core n found awake absent told step.
          quiet-node S (next S e) step g refl (λ l. refl) (lock-flows S (next S e) (at_core core Halt) None step.flown) refl (λ l s. refl);
      read_home = λ bank word reader value is told step.
          by-word S (next S e) step g (lock-flows S (next S e) (at_bank bank (ReadReq word reader)) (to_core reader (DataReply word value)) step.flown) refl (λ l s. refl);
      read_owned = λ bank word reader owner is told step.
          by-word S (next S e) step g (lock-flows S (next S e) (at_bank bank (ReadReq word reader)) (to_core owner (ReadFwd word reader)) step.flown) refl (λ l s. refl);
      register_home = λ bank word core value is told step.
          by-word S (next S e) step g (lock-flows S (next S e) (at_bank bank (RegReq word core)) (to_core core (RegAck word)) step.flown) refl (λ l s. refl);
      register_owned = λ bank word core owner is other told step.
          by-word S (next S e) step g (lock-flows S (next S e) (at_bank bank (RegReq word core)) (to_core owner (RegFwd word core)) step.flown) refl (λ l s. refl);
      write_back = λ bank word core value is told step.
          by-word S (next S e) step g (lock-flows S (next S e) (at_bank bank (WriteBack word value core)) (to_core core (WbAck word)) step.flown) refl (λ l s. refl);
      write_past = λ bank word core value content is past told step.
          by-word S (next S e) step g (lock-flows S (next S e) (at_bank bank (WriteBack word value core)) (to_core core (WbAck word)) step.flown) refl (λ l s. refl);
      acquire_free = λ bank lock core h is free told step.
          with-rows (next S e)
          (free-rows S (next S e) lock core bank h.kept h (record h { holder = Some core })
          (lock-home S (next S e) lock h (record h { holder = Some core }) step is (λ l d f. rw (f) at (lock-flows S (next S e) (at_bank bank (Acquire lock core)) (to_core core (Grant lock h.kept)) step.flown l d))) g free refl refl)
          (signs-kept S (next S e) lock h (record h { holder = Some core }) (at_bank bank (Acquire lock core)) (to_core core (Grant lock h.kept)) (signs-of S g) is step.locks (rw (step.keeper) refl) step.flown refl refl
          (λ l s f. rw (f) refl) (rw (same-number lock.0, same-sign h.kept) refl));
      acquire_held = λ bank lock core holder h is has told step.
          with-rows (next S e)
          (held-rows S (next S e) lock core bank h (record h { queue = h.queue ++ core ∷ [] })
          (lock-home S (next S e) lock h (record h { queue = h.queue ++ core ∷ [] }) step is (λ l d f. rw (f) at (lock-flows S (next S e) (at_bank bank (Acquire lock core)) None step.flown l d))) g refl refl)
          (signs-kept S (next S e) lock h (record h { queue = h.queue ++ core ∷ [] }) (at_bank bank (Acquire lock core)) None (signs-of S g) is step.locks (rw (step.keeper) refl) step.flown refl refl
          (λ l s f. refl) refl);
      release_last = λ bank lock core holder s h is has same none told step.
          let k : Lock = record h { holder = None; kept = joined h.kept s } in
          let own = has ∙ ap (λ (x : ℕ). let c : CoreId = record { 0 = x } in Some c) same in
          with-rows (next S e)
          (last-rows S (next S e) lock core s bank h (record h { holder = None; kept = joined h.kept s })
          (lock-home S (next S e) lock h (record h { holder = None; kept = joined h.kept s }) step is (λ l d f. rw (f) at (lock-flows S (next S e) (at_bank bank (Release lock core s)) None step.flown l d))) g own refl refl)
          (signs-joined S (next S e) lock core s h (record h { holder = None; kept = joined h.kept s }) (Bank bank) None (signs-of S g) is step.locks (rw (step.keeper) refl) step.flown refl refl
          (λ l t f. refl) refl (ungranted lock core h (joined h.kept s) is own (step.flown (is_release_of lock.0 core.0))));
      release_on = λ bank lock core holder waiter others s h is has same queue told step.
          let own = has ∙ ap (λ (x : ℕ). let c : CoreId = record { 0 = x } in Some c) same in
          with-rows (next S e)
          (on-rows S (next S e) lock core waiter others s (joined h.kept s) bank h (record h { holder = Some waiter; queue = others; kept = joined h.kept s })
          (lock-home S (next S e) lock h (record h { holder = Some waiter; queue = others; kept = joined h.kept s }) step is
          (λ l d f. rw (f) at (lock-flows S (next S e) (at_bank bank (Release lock core s)) (to_core waiter (Grant lock (joined h.kept s))) step.flown l d))) g own refl queue refl)
          (signs-joined S (next S e) lock core s h (record h { holder = Some waiter; queue = others; kept = joined h.kept s }) (Bank bank) (to_core waiter (Grant lock (joined h.kept s))) (signs-of S g) is step.locks
          (rw (step.keeper) refl) step.flown refl refl (λ l t f. rw (f) refl) (rw (same-number lock.0, same-sign (joined h.kept s)) refl)
          (ungranted lock core h (joined h.kept s) is own (step.flown (is_release_of lock.0 core.0))));
      arrived = λ core bad new more told step.
          let same = barrier-flows S (next S e) step (came core bad) (λ p of. nothing-posted p S.setting.shape.cores) in
          with-rows (next S e) (barrier-rows S (next S e) step g same) (barrier-signs S (next S e) step g 0 (omega arith) (omega arith) same);
      all_go = λ core bad new all more told step.
          let same = barrier-flows S (next S e) step (came core bad) (λ p of. none-posted p (Go (record { 0 = S.keeper.phase + 1 })) (λ c. of.go (Core (record { 0 = c })) (record { 0 = S.keeper.phase + 1 })) S.setting.shape.cores) in
          with-rows (next S e) (barrier-rows S (next S e) step g same) (barrier-signs S (next S e) step g 1 (omega arith) (omega arith) same);
      all_halt = λ core bad new all over told step.
          let same = barrier-flows S (next S e) step (came core bad) (λ p of. none-posted p Halt (λ c. of.halt (Core (record { 0 = c }))) S.setting.shape.cores) in
          with-rows (next S e) (barrier-rows S (next S e) step g same) (barrier-signs S (next S e) step g 0 (omega arith) (omega arith) same);
    }
  where
    g : LocksGood S
    g = inv.locks

    load-held : (core : CoreId) (n : NodeParts) (d : TaskDecl) (t : TaskState) (word : WordId) (value : ℕ) → IsActing S core n d t (need.TheVariants.Load word) → (loaded_of S.setting.program value t).held ≡ t.held
    load-held core n d t word value acts = loaded-held S.setting.program d S.setting.fuel t value (rw (acts.wants) tt)

    store-held : (core : CoreId) (n : NodeParts) (d : TaskDecl) (t : TaskState) (word : WordId) (whole : Bool) → IsActing S core n d t (need.TheVariants.Store word whole) → (advanced S.setting.program t).held ≡ t.held
    store-held core n d t word whole acts = advanced-held S.setting.program d S.setting.fuel t (need.TheVariants.Store word whole) acts.wants tt

    -- a lock that is given up
    had : (core : CoreId) (n : NodeParts) (d : TaskDecl) (t : TaskState) (lock : LockId) → IsActing S core n d t (need.TheVariants.Release lock) → is_held (held_locks n.task) lock.0 ≡ true
    had core n d t lock acts =
        subst (λ (x : ℕ). is_held x lock.0 ≡ true) (sym (held-now S core n d t (need.TheVariants.Release lock) acts)) (release-allowed S.setting.program d S.setting.fuel t lock acts.wants).1

    given : (core : CoreId) (n : NodeParts) (d : TaskDecl) (t : TaskState) (lock : LockId) → IsActing S core n d t (need.TheVariants.Release lock)
        → (l : ℕ) → is_held (advanced S.setting.program t).held l ≡ (not (l == lock.0) && is_held (held_locks n.task) l)
    given core n d t lock acts l =
        ap (λ (x : ℕ). is_held x l) (advanced-held S.setting.program d S.setting.fuel t (need.TheVariants.Release lock) acts.wants tt)
        ∙ holds-released t.held lock.0 l (release-allowed S.setting.program d S.setting.fuel t lock acts.wants).1
        ∙ ap (λ (x : ℕ). not (l == lock.0) && is_held x l) (sym (held-now S core n d t (need.TheVariants.Release lock) acts))

    timely : (core : CoreId) (n : NodeParts) (d : TaskDecl) (t : TaskState) (lock : LockId) → IsActing S core n d t (need.TheVariants.Release lock)
        → bit (nat_lt S.keeper.phase (tag (signature_of n lock.0))) ≡ 0
    timely core n d t lock acts =
        let own = signature-tag S.setting n lock.0 ((inv.machine.node core.0 n acts.found).fits) in
        let now = in-phase S M core.0 n d t inv (acting-works S core n d t (need.TheVariants.Release lock) acts) in
        grind (arith, nat_tests, own, now)

    -- a lock that is granted
    lacked : (n : NodeParts) (d : TaskDecl) (t : TaskState) (lock : LockId) → n.task ≡ Some t → need_of S.setting.program d S.setting.fuel t ≡ need.TheVariants.Acquire lock → is_held (held_locks n.task) lock.0 ≡ false
    lacked n d t lock has wants = subst (λ (x : ℕ). is_held x lock.0 ≡ false) (sym (ap held_locks has)) (acquire-allowed S.setting.program d S.setting.fuel t lock wants).1

    got : (n : NodeParts) (d : TaskDecl) (t : TaskState) (lock : LockId) (s : Signature) → n.task ≡ Some t → need_of S.setting.program d S.setting.fuel t ≡ need.TheVariants.Acquire lock
        → (l : ℕ) → is_held (advanced S.setting.program t).held l ≡ ((l == lock.0) || is_held (held_locks n.task) l)
    got n d t lock s has wants l =
        ap (λ (x : ℕ). is_held x l) (advanced-held S.setting.program d S.setting.fuel t (need.TheVariants.Acquire lock) wants tt)
        ∙ holds-acquired t.held lock.0 l ∙ ap (λ (x : ℕ). (l == lock.0) || is_held x l) (sym (ap held_locks has))

    -- a phase begins and ends without a lock
    none-started : (o : Option TaskDecl) → held_locks (option_map started o) ≡ 0
    none-started None = refl
    none-started (Some d) = refl

    idle : (core : CoreId) (n : NodeParts) (phase : PhaseId) → slice_get S.nodes core.0 ≡ Some n → flight (next S e) (is_go_to core.0) + bit (core.0 == core.0) ≡ flight S (is_go_to core.0) + 0
        → held_locks (option_map started (declared S.setting.program phase.0 n.core)) ≡ held_locks n.task
    idle core n phase found moved =
        let one = rw (same-number core.0) at moved in
        none-started (declared S.setting.program phase.0 n.core) ∙ sym (inv.phases.unlocked core.0 n found (omega (arith, one)))

    -- while a release is in flight no grant of the lock is
    ungranted : (lock : LockId) (core : CoreId) (h : Lock) (s : Signature) → lock_at S lock.0 ≡ Some h → h.holder ≡ Some core
        → flight (next S e) (is_release_of lock.0 core.0) + bit ((lock.0 == lock.0) && (core.0 == core.0)) ≡ flight S (is_release_of lock.0 core.0) + 0 → flight S (is_unlike lock.0 s) ≡ 0
    ungranted lock core h s is has moved = no-grants S lock.0 s inv.addressed none where
      one : 1 ≤ flight S (is_release_of lock.0 core.0)
      one = let all = rw (same-number lock.0, same-number core.0) at moved in omega (arith, all)

      none : (c : ℕ) → flight S (is_grant_to lock.0 c) ≡ 0
      none c = by_core (core.0 == c) refl where
        by_core : (x : Bool) → (core.0 == c) ≡ x → flight S (is_grant_to lock.0 c) ≡ 0
        by_core x f =
            let holder = rw (f) at (ap (holder_count c) has) in
            let same = ap (holder_in c) is in
            by_case x f holder same where
              by_case : (x : Bool) → (core.0 == c) ≡ x → holder_count c h.holder ≡ bit x → holder_in c (lock_at S lock.0) ≡ holder_count c h.holder → flight S (is_grant_to lock.0 c) ≡ 0
              by_case true f holder same = subst (λ (y : ℕ). flight S (is_grant_to lock.0 y) ≡ 0) (eqb-true core.0 c f) (omega (arith, one, g.row lock.0 core.0, ap (holder_in core.0) is, holder-within core.0 h.holder))
              by_case false f holder same = omega (arith, g.row lock.0 c, holder, same)

    -- an arrival is of no lock
    came : (core : CoreId) (bad : Bool) (p : Test) → IsOfLocks p → passes p (at_keeper (Arrived core bad)) ≡ 0
    came core bad p of = ap bit (of.arrived Keeper core bad)
