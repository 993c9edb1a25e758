-- Every copy that a core has is one of a word of the program: it comes with an answer to a read, which a core makes of such
-- words alone, and no other event brings one.
use Rattle.std.proofs.Common.{◌≡◌, ℕ, ◌<◌, ◌≤◌, ◌==◌, ◌&&◌, ◌||◌, not, nat_lt, Bool, true, false, cond, length, slice_get, List, Option, Some, None, refl, ap, subst, arith}
use Rattle.std.specs.Option.{option_map}
use Rattle.std.proofs.lemmas.Bool.{eqb-true}
use Rattle.std.proofs.lemmas.Bool.Decides.{nat_tests}
use Rattle.dn_base.specs.declared.ids.CoreId.{CoreId}
use Rattle.dn_base.specs.declared.ids.WordId.{WordId}
use Rattle.region_table.specs.declared.interval.Interval.{Interval}
use Rattle.region_table.specs.Words.{has}
use Rattle.write_signature.specs.declared.signature.Signature.{Signature}
use Rattle.write_signature.specs.Signature.{may_hold}
use Rattle.message_net.specs.declared.event.Event.{Event}
use Rattle.message_net.specs.declared.message.Outgoing.{Outgoing}
use Rattle.word_cache.specs.declared.row.Entry.{Entry}
use Rattle.word_cache.specs.declared.row.Entry.TheVariants.{Valid, Registered, Leaving}
use Rattle.word_cache.specs.Cache.{entry_after_phase, entry_after_grant}
use Rattle.word_cache.proofs.LookLemmas.{lookup-without, lookup-put, lookup-changed, lookup-touched}
use Rattle.registration_protocol.specs.declared.node.NodeWait as wait
use Rattle.registration_protocol.specs.Node.{NodeParts, Setting, entry_of}
use Rattle.registration_protocol.specs.Messages.{with_entry, guarded_by, written_in}
use Rattle.registration_protocol.proofs.MessageLemmas.{grant-entries, begin-entries}
use Rattle.machine_rules.specs.State.{State, entry_in, entry_at, initial_state}
use Rattle.machine_rules.specs.Next.{next}
use Rattle.machine_rules.specs.Flight.{bit}
use Rattle.machine_rules.proofs.Bits.{valid_bit}
use Rattle.machine_rules.proofs.Invariant.{Invariant}
use Rattle.machine_rules.proofs.Steps.{NodeStep}
use Rattle.machine_rules.proofs.Outcomes.{Outcomes}
use Rattle.machine_rules.proofs.Exclusive.{reading-works}
use Rattle.machine_rules.proofs.OpenedFacts.{opened-entry}

-- 1 for a word of the program
abbrev pub known : Setting → ℕ → ℕ
known C w = bit (nat_lt w (length C.program.memory))

abbrev pub AreOfProgram : State → Type 0
AreOfProgram S = (c w : ℕ) → valid_bit (entry_at S c w) ≤ known S.setting w

-- ---- what becomes of a node's copies

-- a node has no copy that it didn't have
record HasNoNew (n m : NodeParts) : Type 0 where
  copy : (v : ℕ) → valid_bit (entry_of m v) ≤ valid_bit (entry_of n v)

same-entries : (n m : NodeParts) → ((v : ℕ) → entry_of m v ≡ entry_of n v) → HasNoNew n m
same-entries n m same = record { copy = λ v. omega (arith, ap valid_bit (same v)) }

-- the entry of one word becomes another
entry-at : (n m : NodeParts) (w : ℕ) (e : Option Entry) → ((v : ℕ) → entry_of m v ≡ cond (w == v) e (entry_of n v)) → valid_bit e ≤ valid_bit (entry_of n w) → HasNoNew n m
entry-at n m w e now less = record { copy = λ v. by_test v (w == v) refl } where
  by_test : (v : ℕ) (x : Bool) → (w == v) ≡ x → valid_bit (entry_of m v) ≤ valid_bit (entry_of n v)
  by_test v true f = omega (arith, ap valid_bit (rw (f) at (now v)), subst (λ (x : ℕ). valid_bit e ≤ valid_bit (entry_of n x)) (eqb-true w v f) less)
  by_test v false f = omega (arith, ap valid_bit (rw (f) at (now v)))

-- one that becomes no copy, where it is there
changed-at : (n : NodeParts) (w : ℕ) (e : Entry) → valid_bit (Some e) ≡ 0 → HasNoNew n (with_entry n w e)
changed-at n w e none = entry-at n (with_entry n w e) w (option_map (λ (_ : Entry). e) (entry_of n w)) (λ v. lookup-changed w v e n.cache.pairs) (by_entry (entry_of n w)) where
  by_entry : (o : Option Entry) → valid_bit (option_map (λ (_ : Entry). e) o) ≤ valid_bit (entry_of n w)
  by_entry None = omega arith
  by_entry (Some old) = omega (arith, none)

-- entries of which some go
filtered : (n m : NodeParts) {stays : ℕ → ℕ} → ((v : ℕ) → valid_bit (entry_of m v) ≡ stays v) → ((v : ℕ) → stays v ≤ valid_bit (entry_of n v)) → HasNoNew n m
filtered n m now less = record { copy = λ v. omega (arith, now v, less v) }

-- the end of a phase and a grant bring none
after-phase : (words : List Interval) (w : ℕ) (e : Option Entry) → valid_bit (entry_after_phase words w e) ≤ valid_bit e
after-phase words w None = omega arith
after-phase words w (Some (Valid value true)) = omega arith
after-phase words w (Some (Valid value false)) = by_test (has words w) where
  by_test : (x : Bool) → valid_bit (cond (false || not x) (Some (Valid value false)) None) ≤ 1
  by_test true = omega arith
  by_test false = omega arith
after-phase words w (Some (Registered value pending)) = omega arith
after-phase words w (Some (Leaving value)) = omega arith

after-grant : (s : Signature) (phase : ℕ) (words : List Interval) (w : ℕ) (e : Option Entry) → valid_bit (entry_after_grant s phase words w e) ≤ valid_bit e
after-grant s phase words w None = omega arith
after-grant s phase words w (Some (Valid value marked)) = by_test (has words w && may_hold s w phase) where
  by_test : (x : Bool) → valid_bit (cond x None (Some (Valid value marked))) ≤ 1
  by_test true = omega arith
  by_test false = omega arith
after-grant s phase words w (Some (Registered value pending)) = omega arith
after-grant s phase words w (Some (Leaving value)) = omega arith

-- ---- and of those of all nodes

record HasKnown (S : State) (m : NodeParts) : Type 0 where
  copy : (v : ℕ) → valid_bit (entry_of m v) ≤ known S.setting v

by-node : (S T : State) {core : ℕ} {n m : NodeParts} {left sent : Option Outgoing} → AreOfProgram S → NodeStep S T core n m left sent → HasKnown S m → AreOfProgram T
by-node S T {core = core} {n = n} {m = m} good step own c w = rw (step.setting) (by_core (core == c) refl) where
  by_core : (x : Bool) → (core == c) ≡ x → valid_bit (entry_at T c w) ≤ known S.setting w
  by_core true e = omega (arith, own.copy w, ap (λ (o : Option NodeParts). valid_bit (entry_in w o)) (rw (e) at (step.nodes c)))
  by_core false e = omega (arith, good c w, ap (λ (o : Option NodeParts). valid_bit (entry_in w o)) (rw (e) at (step.nodes c)))

no-new : (S T : State) {core : ℕ} {n m : NodeParts} {left sent : Option Outgoing} → AreOfProgram S → NodeStep S T core n m left sent → HasNoNew n m → AreOfProgram T
no-new S T {core = core} good step old = by-node S T good step (record { copy = λ v. omega (arith, old.copy v, good core v, ap (λ (o : Option NodeParts). valid_bit (entry_in v o)) step.found) })

same-nodes : (S T : State) → AreOfProgram S → T.setting ≡ S.setting → T.nodes ≡ S.nodes → AreOfProgram T
same-nodes S T good setting nodes c w = rw (setting, nodes) (good c w)

-- an answer is to a core that reads a word of the program
answered : (S : State) (M : ℕ → ℕ) (core : CoreId) (n m : NodeParts) (word : WordId) (value : ℕ) → Invariant S M → AreOfProgram S → slice_get S.nodes core.0 ≡ Some n
    → n.waiting ≡ wait.TheVariants.Reading word → ((v : ℕ) → entry_of m v ≡ cond (word.0 == v) (Some (Valid value false)) (entry_of n v)) → HasKnown S m
answered S M core n m word value inv good found waits now = record { copy = λ v. by_test v (word.0 == v) refl } where
  memory : ℕ
  memory = length S.setting.program.memory

  within : word.0 < memory
  within = (reading-works S M core.0 n word inv found waits).within

  by_test : (v : ℕ) (x : Bool) → (word.0 == v) ≡ x → valid_bit (entry_of m v) ≤ known S.setting v
  by_test v true f =
      let inside : nat_lt v memory ≡ true = grind (arith, nat_tests, within, eqb-true word.0 v f) in
      omega (arith, ap valid_bit (rw (f) at (now v)), ap bit inside)
  by_test v false f = omega (arith, ap valid_bit (rw (f) at (now v)), good core.0 v, ap (λ (o : Option NodeParts). valid_bit (entry_in v o)) found)

-- ---- every event

pub copies-outcomes : (S : State) (M : ℕ → ℕ) (e : Event) → Invariant S M → AreOfProgram S → Outcomes S M e (λ M'. AreOfProgram (next S e))
copies-outcomes S M e inv g =
    let T = next S e in
    record {
      local = λ core n d t acts told step. no-new S T g step (same-entries n _ (λ v. refl));
      ends = λ core n d t by acts told step. no-new S T g step (same-entries n _ (λ v. refl));
      load_copy = λ core n d t word value marked acts is told step.
          no-new S T g step (entry-at n _ word.0 _ (λ v. lookup-put word _ v n.cache.pairs) (omega (arith, ap valid_bit is)));
      load_own = λ core n d t word value pending acts is told step. no-new S T g step (same-entries n _ (λ v. lookup-touched word v n.cache.pairs));
      miss = λ core n d t word needs kind acts none room told step. no-new S T g step (same-entries n _ (λ v. refl));
      store_new = λ core n d t word value acts none room is told step. no-new S T g step (entry-at n _ word.0 _ (λ v. lookup-put word (Registered value true) v n.cache.pairs) (omega arith));
      store_copy = λ core n d t word whole old value marked acts was is told step.
          no-new S T g step (entry-at n _ word.0 _ (λ v. lookup-put word (Registered value true) v n.cache.pairs) (omega arith));
      store_own = λ core n d t word whole old value pending acts was is told step.
          no-new S T g step (entry-at n _ word.0 _ (λ v. lookup-put word (Registered value pending) v n.cache.pairs) (omega arith));
      acquire = λ core n d t lock acts told step. no-new S T g step (same-entries n _ (λ v. refl));
      release = λ core n d t lock acts settled told step. no-new S T g step (same-entries n _ (λ v. refl));
      evict_copy = λ core n word value marked found active waits is told step. no-new S T g step (entry-at n _ word.0 None (λ v. lookup-without word.0 v n.cache.pairs) (omega arith));
      evict_own = λ core n word value found active waits is told step. no-new S T g step (changed-at n word.0 (Leaving value) refl);
      arrive = λ core n found awake absent over settled told step. no-new S T g step (same-entries n _ (λ v. refl));
      reply = λ core n word value found waits none room told step.
          by-node S T g step (answered S M core n _ word value inv g found waits (λ v. lookup-put word (Valid value false) v n.cache.pairs));
      acknowledge = λ core n word value found is told step. no-new S T g step (changed-at n word.0 (Registered value false) refl);
      forward = λ core other n word value found is told step. no-new S T g step (entry-at n _ word.0 None (λ v. lookup-without word.0 v n.cache.pairs) (omega arith));
      forward_past = λ core other n word found none told step. no-new S T g step (same-entries n n (λ v. refl));
      answer = λ core reader n word value found is told step. no-new S T g step (same-entries n n (λ v. refl));
      bounce = λ core reader n word found is told step. no-new S T g step (same-entries n n (λ v. refl));
      freed = λ core n word value found is told step. no-new S T g step (entry-at n _ word.0 None (λ v. lookup-without word.0 v n.cache.pairs) (omega arith));
      grant = λ core n d t lock s found waits has_task open' declares wants awake absent told step.
          let cache = ((inv.machine.node core.0 n found).fits).cache in
          no-new S T g step (filtered n _ (λ v. ap valid_bit (grant-entries S.setting n t lock s v cache)) (λ v. after-grant s n.phase (guarded_by (slice_get S.setting.plans n.phase) lock.0) v (entry_of n v)));
      go = λ core n phase found awake arrived same next_is within told step.
          let cache = ((inv.machine.node core.0 n found).fits).cache in
          no-new S T g step (filtered n _ (λ v. ap valid_bit (begin-entries S.setting n phase.0 v cache)) (λ v. after-phase (written_in (slice_get S.setting.plans n.phase)) v (entry_of n v)));
      halt = λ core n found awake arrived told step. no-new S T g step (same-entries n _ (λ v. refl));
      read_home = λ bank word reader value was told step. same-nodes S T g step.setting step.nodes;
      read_owned = λ bank word reader owner was told step. same-nodes S T g step.setting step.nodes;
      register_home = λ bank word core value was told step. same-nodes S T g step.setting step.nodes;
      register_owned = λ bank word core owner was other told step. same-nodes S T g step.setting step.nodes;
      write_back = λ bank word core value was told step. same-nodes S T g step.setting step.nodes;
      write_past = λ bank word core value content was past told step. same-nodes S T g step.setting step.nodes;
      acquire_free = λ bank lock core h was free told step. same-nodes S T g step.setting step.nodes;
      acquire_held = λ bank lock core holder h was held told step. same-nodes S T g step.setting step.nodes;
      release_last = λ bank lock core holder s h was held same none told step. same-nodes S T g step.setting step.nodes;
      release_on = λ bank lock core holder waiter others s h was held same queue told step. same-nodes S T g step.setting step.nodes;
      arrived = λ core bad was rest told step. same-nodes S T g step.setting step.nodes;
      all_go = λ core bad was all over told step. same-nodes S T g step.setting step.nodes;
      all_halt = λ core bad was all over told step. same-nodes S T g step.setting step.nodes;
    }

-- no core has a copy as a run begins
pub opened-copies : (C : Setting) → AreOfProgram (initial_state C)
opened-copies C c w = omega (arith, ap valid_bit (opened-entry C c w))
