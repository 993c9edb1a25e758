-- What the task of one core may store no task of another core may load: as long as both are at work.
use Rattle.std.specs.List.{IsAmong}
use Rattle.std.proofs.Common.{◌≡◌, ◌≢◌, ◌⊎◌, inl, inr, ℕ, zero, suc, ◌<◌, ◌≤◌, ◌==◌, Bool, true, false, [], length, slice_get, Option, Some, None, refl, sym, ap, subst, ◌∙◌, arith}
use Rattle.std.proofs.lemmas.Bool.{eqb-true}
use Rattle.std.proofs.lemmas.Bool.Decides.{nat_tests}
use Rattle.dn_base.specs.declared.ids.WordId.{WordId}
use Rattle.dn_base.specs.declared.ids.CoreId.{CoreId}
use Rattle.region_table.specs.declared.declared.TaskDecl.{TaskDecl}
use Rattle.region_table.specs.declared.declared.Phase.{Phase}
use Rattle.region_table.specs.Tasks.{declared}
use Rattle.region_table.proofs.TaskLemmas.{declared-tells}
use Rattle.rv_core.specs.declared.task.TaskState.{TaskState}
use Rattle.rv_core.specs.declared.need.Need as need
use Rattle.rv_core.specs.declared.need.Need.{Need}
use Rattle.rv_core.specs.Access.{is_held, may_load, may_store}
use Rattle.rv_core.proofs.Completions.{load-allowed, store-allowed}
use Rattle.flat_machine.specs.Step.{Started}
use Rattle.flat_machine.proofs.Separation.{AreApart, keeps-out}
use Rattle.flat_machine.proofs.Rights.{store-loads, both-ways}
use Rattle.queue_lock.specs.Lock.{Lock, holder_count}
use Rattle.word_cache.specs.declared.row.Entry.{Entry}
use Rattle.word_cache.specs.declared.row.Entry.TheVariants.{Valid, Registered, Leaving}
use Rattle.word_cache.specs.Cache.{pending_bit as pending_pair, pending_count}
use Rattle.word_cache.proofs.WeightLemmas.{pending-most}
use Rattle.registration_protocol.specs.declared.node.NodeWait as wait
use Rattle.registration_protocol.specs.declared.node.NodeWait.{NodeWait}
use Rattle.registration_protocol.specs.Node.{NodeParts, entry_of, need_now, is_settled}
use Rattle.registration_protocol.proofs.InstrLemmas.{has-next}
use Rattle.machine_rules.specs.State.{State, entry_in, entry_at, lock_at}
use Rattle.machine_rules.specs.Flight.{bit}
use Rattle.machine_rules.specs.Coherent.{NeedsValue, HasArrived, has_lock, holder_in, is_alive}
use Rattle.machine_rules.proofs.Bits.{pending_bit, reading_in, is_reading}
use Rattle.machine_rules.proofs.Invariant.{Invariant, LocksGood}
use Rattle.machine_rules.proofs.Outcomes.{IsActing}

-- the node n of a core is neither at the barrier nor halted; its task is t, and the program declares it as d
pub record IsAtWork (S : State) (c : ℕ) (n : NodeParts) (d : TaskDecl) (t : TaskState) : Type 0 where
  pub found : slice_get S.nodes c ≡ Some n
  pub awake : n.halted ≡ false
  pub absent : n.arrived ≡ false
  pub task : n.task ≡ Some t
  pub declares : declared S.setting.program n.phase c ≡ Some d

-- it is in the keeper's phase
pub in-phase : (S : State) (M : ℕ → ℕ) (c : ℕ) (n : NodeParts) (d : TaskDecl) (t : TaskState) → Invariant S M → IsAtWork S c n d t → n.phase ≡ S.keeper.phase
in-phase S M c n d t inv h =
    let dead : bit (is_alive (slice_get S.nodes c)) ≡ 0 = rw (h.found, h.absent) refl in
    omega (arith, dead, inv.phases.row c, inv.phases.phase c n h.found h.awake)

-- who holds a lock is its holder
holds-one : (S : State) (c : ℕ) (n : NodeParts) (d : TaskDecl) (t : TaskState) (l : ℕ) → LocksGood S → IsAtWork S c n d t → is_held t.held l ≡ true → 1 ≤ holder_in c (lock_at S l)
holds-one S c n d t l g h held =
    let one : bit (has_lock S c l) ≡ 1 = rw (h.found, h.task, held) refl in
    omega (arith, one, g.row l c)

pub one-holder : (o : Option Lock) (c d : ℕ) → 1 ≤ holder_in c o → 1 ≤ holder_in d o → c ≡ d
one-holder None c d first second = absurd (omega (arith, first))
one-holder (Some h) c d first second = by_holder h.holder first second where
  by_holder : (o : Option CoreId) → 1 ≤ holder_count c o → 1 ≤ holder_count d o → c ≡ d
  by_holder None first second = absurd (omega (arith, first))
  by_holder (Some x) first second = grind (arith, nat_tests, first, second)

-- two cores at work: what the first may store the second may not load
pub exclusive : (S : State) (M : ℕ → ℕ) (c d : ℕ) (n m : NodeParts) (a b : TaskDecl) (t u : TaskState) (w : ℕ) → Invariant S M → c ≢ d → IsAtWork S c n a t → IsAtWork S d m b u
    → may_store a t.held w ≡ true → may_load b u.held w ≡ true → ⊥
exclusive S M c d n m a b t u w inv other h k stores loads =
    let one = declared-tells S.setting.program n.phase c a h.declares in
    let two = declared-tells S.setting.program m.phase d b k.declares in
    let phase : n.phase ≡ m.phase = in-phase S M c n a t inv h ∙ sym (in-phase S M d m b u inv k) in
    let there : slice_get S.setting.program.phases m.phase ≡ Some one.phase = subst (λ (x : ℕ). slice_get S.setting.program.phases x ≡ Some one.phase) phase one.there in
    let both : Some two.phase ≡ Some one.phase = sym two.there ∙ there in
    let same : two.phase ≡ one.phase = cc in
    let first : Started = record { phase = record { 0 = n.phase }; decl = a; state = t; loads = [] } in
    let second : Started = record { phase = record { 0 = n.phase }; decl = b; state = u; loads = [] } in
    let apart : AreApart S.setting.program one.phase first second = record {
      checked = inv.machine.checked;
      phase = one.known;
      first = one.among;
      second = subst (λ (p : Phase). IsAmong p.tasks b) same two.among;
      cores = λ e. other (sym one.own ∙ e ∙ two.own);
      held = λ lock x y. other (one-holder (lock_at S lock) c d (holds-one S c n a t lock inv.locks h x) (holds-one S d m b u lock inv.locks k y));
    } in
    both-ways (may_load b u.held w) ((keeps-out S.setting.program one.phase first second apart).out w stores) loads

-- ---- who is at work

pub acting-works : (S : State) (core : CoreId) (n : NodeParts) (d : TaskDecl) (t : TaskState) (needs : Need) → IsActing S core n d t needs → IsAtWork S core.0 n d t
acting-works S core n d t needs h = record { found = h.found; awake = h.awake; absent = h.absent; task = h.task; declares = h.declares }

-- a node that has arrived, or is halted, would have no entry pending, and wait for nothing
awake-by : (S : State) (M : ℕ → ℕ) (c : ℕ) (n : NodeParts) → Invariant S M → slice_get S.nodes c ≡ Some n → (HasArrived n → ⊥) → (n.halted ≡ false) × (n.arrived ≡ false)
awake-by S M c n inv found busy = (by_halted n.halted refl, by_arrived n.arrived refl) where
  by_halted : (x : Bool) → n.halted ≡ x → n.halted ≡ false
  by_halted false is = is
  by_halted true is = absurd (busy (inv.phases.asleep c n found is))

  by_arrived : (x : Bool) → n.arrived ≡ x → n.arrived ≡ false
  by_arrived false is = is
  by_arrived true is = absurd (busy (inv.phases.arrived c n found is))

pub pending-pair : (e : Option Entry) → pending_bit e ≡ pending_pair e
pending-pair None = refl
pending-pair (Some (Valid value marked)) = refl
pending-pair (Some (Registered value true)) = refl
pending-pair (Some (Registered value false)) = refl
pending-pair (Some (Leaving value)) = refl

-- a node with no entry pending
pub settled-entry : (n : NodeParts) (w : ℕ) → is_settled n ≡ true → pending_bit (entry_of n w) ≡ 0
settled-entry n w settled =
    let none : pending_count n.cache.pairs ≡ 0 = eqb-true (pending_count n.cache.pairs) 0 settled in
    omega (arith, none, pending-pair (entry_of n w), pending-most w n.cache.pairs)

-- who has a word pending is at work, and may store it
pub record PendingWork (S : State) (c w : ℕ) : Type 0 where
  pub node : NodeParts
  pub decl : TaskDecl
  pub task : TaskState
  pub works : IsAtWork S c node decl task
  pub right : may_store decl task.held w ≡ true

pub pending-works : (S : State) (M : ℕ → ℕ) (c w : ℕ) → Invariant S M → pending_bit (entry_at S c w) ≡ 1 → PendingWork S c w
pending-works S M c w inv one =
    let may = inv.words.right c w one in
    let here : pending_bit (entry_of may.node w) ≡ 1 = sym (ap (λ (o : Option NodeParts). pending_bit (entry_in w o)) may.found) ∙ one in
    let awake = awake-by S M c may.node inv may.found (λ arrived. omega (arith, here, settled-entry may.node w arrived.settled)) in
    record {
      node = may.node;
      decl = may.decl;
      task = may.task;
      works = record { found = may.found; awake = awake.0; absent = awake.1; task = may.has; declares = may.declares };
      right = may.right;
    }

-- who reads a word is at work, and may load it
pub record ReadingWork (S : State) (c : ℕ) (n : NodeParts) (w : ℕ) : Type 0 where
  pub decl : TaskDecl
  pub task : TaskState
  pub works : IsAtWork S c n decl task
  pub right : may_load decl task.held w ≡ true
  pub within : w < length S.setting.program.memory

pub needs-word : (S : State) (M : ℕ → ℕ) (c : ℕ) (n : NodeParts) (word : WordId) → Invariant S M → slice_get S.nodes c ≡ Some n → n.halted ≡ false → n.arrived ≡ false → NeedsValue S n word
    → ReadingWork S c n word.0
needs-word S M c n word inv found awake absent wants = by_task n.task refl wants where
  own : n.core ≡ c
  own = (inv.machine.node c n found).core

  by_need : (t : TaskState) → n.task ≡ Some t → (x : Need) → need_now S.setting n ≡ Some x → (x ≡ need.TheVariants.Load word) ⊎ (x ≡ need.TheVariants.Store word false) → ReadingWork S c n word.0
  by_need t is x now (inl load) =
      let next_is = has-next S.setting n t x is now in
      let may = load-allowed S.setting.program next_is.decl S.setting.fuel t word (next_is.asks ∙ load) in
      record {
        decl = next_is.decl;
        task = t;
        works = record { found = found; awake = awake; absent = absent; task = is; declares = subst (λ (x : ℕ). declared S.setting.program n.phase x ≡ Some next_is.decl) own next_is.declares };
        right = may.1;
        within = may.0;
      }
  by_need t is x now (inr store) =
      let next_is = has-next S.setting n t x is now in
      let may = store-allowed S.setting.program next_is.decl S.setting.fuel t word false (next_is.asks ∙ store) in
      record {
        decl = next_is.decl;
        task = t;
        works = record { found = found; awake = awake; absent = absent; task = is; declares = subst (λ (x : ℕ). declared S.setting.program n.phase x ≡ Some next_is.decl) own next_is.declares };
        right = store-loads next_is.decl t.held word.0 may.1;
        within = may.0;
      }

  by_task : (o : Option TaskState) → n.task ≡ o → NeedsValue S n word → ReadingWork S c n word.0
  by_task None is wants =
      let none : need_now S.setting n ≡ None = rw (is) refl in
      absurd (no-need wants none)
    where
      no-need : NeedsValue S n word → need_now S.setting n ≡ None → ⊥
      no-need (inl some) none = absurd (cc)
      no-need (inr some) none = absurd (cc)
  by_task (Some t) is (inl now) = by_need t is (need.TheVariants.Load word) now (inl refl)
  by_task (Some t) is (inr now) = by_need t is (need.TheVariants.Store word false) now (inr refl)

pub reading-works : (S : State) (M : ℕ → ℕ) (c : ℕ) (n : NodeParts) (word : WordId) → Invariant S M → slice_get S.nodes c ≡ Some n → n.waiting ≡ wait.TheVariants.Reading word
    → ReadingWork S c n word.0
reading-works S M c n word inv found waits =
    let awake = awake-by S M c n inv found (λ arrived. no-wait arrived.waiting) in
    needs-word S M c n word inv found awake.0 awake.1 (inv.reads.reading c n word found waits).2
  where
    no-wait : n.waiting ≡ wait.TheVariants.None → ⊥
    no-wait none = absurd (cc)

-- ---- while a core stores a word no other core has it pending, and none reads it

pub store-right : (S : State) (core : CoreId) (n : NodeParts) (d : TaskDecl) (t : TaskState) (word : WordId) (whole : Bool) → IsActing S core n d t (need.TheVariants.Store word whole)
    → (word.0 < length S.setting.program.memory) × (may_store d t.held word.0 ≡ true)
store-right S core n d t word whole h = store-allowed S.setting.program d S.setting.fuel t word whole h.wants

pub differ : (c d : ℕ) → (c == d) ≡ false → c ≢ d
differ c d e = λ same. grind (arith, nat_tests, e, same)

pub pending-one : (e : Option Entry) → pending_bit e ≤ 1
pending-one None = omega arith
pending-one (Some (Valid value marked)) = omega arith
pending-one (Some (Registered value true)) = omega arith
pending-one (Some (Registered value false)) = omega arith
pending-one (Some (Leaving value)) = omega arith

pub store-none-pending : (S : State) (M : ℕ → ℕ) (core : CoreId) (n : NodeParts) (d : TaskDecl) (t : TaskState) (word : WordId) (whole : Bool) → Invariant S M
    → IsActing S core n d t (need.TheVariants.Store word whole) → (other : ℕ) → (core.0 == other) ≡ false → pending_bit (entry_at S other word.0) ≡ 0
store-none-pending S M core n d t word whole inv h other apart = by_bit (pending_bit (entry_at S other word.0)) refl (pending-one (entry_at S other word.0)) where
  by_bit : (x : ℕ) → pending_bit (entry_at S other word.0) ≡ x → pending_bit (entry_at S other word.0) ≤ 1 → pending_bit (entry_at S other word.0) ≡ 0
  by_bit zero is within = is
  by_bit (suc x) is within =
      let p = pending-works S M other word.0 inv (omega (arith, is, within)) in
      absurd (exclusive S M core.0 other n p.node d p.decl t p.task word.0 inv (differ core.0 other apart)
      (acting-works S core n d t (need.TheVariants.Store word whole) h) p.works (store-right S core n d t word whole h).1 (store-loads p.decl p.task.held word.0 p.right))

pub store-none-reading : (S : State) (M : ℕ → ℕ) (core : CoreId) (n : NodeParts) (d : TaskDecl) (t : TaskState) (word : WordId) (whole : Bool) → Invariant S M
    → IsActing S core n d t (need.TheVariants.Store word whole) → (other : ℕ) → (core.0 == other) ≡ false → reading_in word.0 (slice_get S.nodes other) ≡ 0
store-none-reading S M core n d t word whole inv h other apart = by_node (slice_get S.nodes other) refl where
  by_node : (o : Option NodeParts) → slice_get S.nodes other ≡ o → reading_in word.0 o ≡ 0
  by_node None found = refl
  by_node (Some m) found = by_wait m.waiting refl where
    by_wait : (waiting : NodeWait) → m.waiting ≡ waiting → bit (is_reading word.0 waiting) ≡ 0
    by_wait (wait.TheVariants.Reading wanted) is = by_test (wanted.0 == word.0) refl where
      by_test : (x : Bool) → (wanted.0 == word.0) ≡ x → bit x ≡ 0
      by_test false e = refl
      by_test true e =
          let same : wanted.0 ≡ word.0 = eqb-true wanted.0 word.0 e in
          let r = reading-works S M other m wanted inv found is in
          absurd (exclusive S M core.0 other n m d r.decl t r.task wanted.0 inv (differ core.0 other apart)
          (acting-works S core n d t (need.TheVariants.Store word whole) h) r.works
          (subst (λ (x : ℕ). may_store d t.held x ≡ true) (sym same) (store-right S core n d t word whole h).1) r.right)
    by_wait _ is = refl

-- the same while it begins to read a word, for a load or a store of a part
pub load-none-pending : (S : State) (M : ℕ → ℕ) (core : CoreId) (n : NodeParts) (d : TaskDecl) (t : TaskState) (word : WordId) (needs : Need) → Invariant S M
    → (needs ≡ need.TheVariants.Load word) ⊎ (needs ≡ need.TheVariants.Store word false) → IsActing S core n d t needs → (other : ℕ) → (core.0 == other) ≡ false → pending_bit (entry_at S other word.0) ≡ 0
load-none-pending S M core n d t word needs inv kind h other apart = by_bit (pending_bit (entry_at S other word.0)) refl (pending-one (entry_at S other word.0)) where
  right : (needs ≡ need.TheVariants.Load word) ⊎ (needs ≡ need.TheVariants.Store word false) → may_load d t.held word.0 ≡ true
  right (inl load) = (load-allowed S.setting.program d S.setting.fuel t word (h.wants ∙ load)).1
  right (inr store) = store-loads d t.held word.0 (store-allowed S.setting.program d S.setting.fuel t word false (h.wants ∙ store)).1

  by_bit : (x : ℕ) → pending_bit (entry_at S other word.0) ≡ x → pending_bit (entry_at S other word.0) ≤ 1 → pending_bit (entry_at S other word.0) ≡ 0
  by_bit zero is within = is
  by_bit (suc x) is within =
      let p = pending-works S M other word.0 inv (omega (arith, is, within)) in
      absurd (exclusive S M other core.0 p.node n p.decl d p.task t word.0 inv (λ same. differ core.0 other apart (sym same)) p.works
      (acting-works S core n d t needs h) p.right (right kind))
