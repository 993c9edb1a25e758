-- The access that retires by an event: which task makes it, that the task may, that it reads what the memory has, and that the
-- event stores what it writes.
use Rattle.std.proofs.Common.{◌≡◌, ◌≢◌, inl, inr, ℕ, ◌+◌, ◌==◌, Bool, true, false, cond, slice_get, Option, Some, None, unwrap_or, option_and_then, refl, sym, ap, subst, ◌∙◌, arith}
use Rattle.std.proofs.lemmas.Option.{same_Some, none-some}
use Rattle.dn_base.specs.declared.ids.CoreId.{CoreId}
use Rattle.dn_base.specs.declared.ids.WordId.{WordId}
use Rattle.dn_base.specs.declared.ids.LoadSeen.{LoadSeen}
use Rattle.region_table.specs.declared.declared.TaskDecl.{TaskDecl}
use Rattle.rv_core.specs.declared.task.TaskState.{TaskState}
use Rattle.rv_core.specs.declared.need.Need as need
use Rattle.rv_core.specs.declared.need.Need.{Need}
use Rattle.rv_core.specs.Kinds.{IsStore}
use Rattle.rv_core.specs.Step.{merged_of}
use Rattle.rv_core.specs.Access.{may_load, may_store}
use Rattle.rv_core.proofs.Completions.{load-allowed, store-allowed}
use Rattle.flat_machine.proofs.Rights.{store-loads}
use Rattle.message_net.specs.declared.event.Event.{Event}
use Rattle.message_net.specs.declared.event.Event.TheVariants.{Instr, Evict, Arrive, Handle}
use Rattle.word_cache.specs.declared.row.Entry.{Entry}
use Rattle.word_cache.specs.declared.row.Entry.TheVariants.{Valid, Registered, Leaving}
use Rattle.registration_protocol.specs.Node.{NodeParts, entry_of}
use Rattle.registration_protocol.specs.OwnEvents.{may_access, instr_row, written_by}
use Rattle.registration_protocol.specs.Parts.{held_locks, retired_so_far, accessed, completes, retired_by, held_by, seen_by}
use Rattle.registration_protocol.proofs.InstrLemmas.{may-instruct, instr-parts, instr-retires, written-is, written-none}
use Rattle.machine_rules.specs.State.{State}
use Rattle.machine_rules.specs.Next.{next, enabled, seen_in}
use Rattle.machine_rules.specs.Memory.{value_in_entry, store_in}
use Rattle.machine_rules.specs.Actions.{Access}
use Rattle.machine_rules.specs.Accesses.{access_by, kept_by, accessed_by, access_in}
use Rattle.machine_rules.specs.Consistent.{written_to}
use Rattle.machine_rules.proofs.Invariant.{Invariant}
use Rattle.machine_rules.proofs.Outcomes.{stored_to}
use Rattle.machine_rules.proofs.Exclusive.{IsAtWork, acting-works}
use Rattle.machine_rules.proofs.LoadsRead.{copy-loaded, own-loaded}
use Rattle.machine_rules.proofs.WordCore.{same-number}
use Rattle.machine_rules.proofs.DispatchOwn.{Going, going, instr-there, Instructed, instructed-row}

-- the access that the task of a core makes by an event, and the core's node after it
pub record IsMade (S : State) (M : ℕ → ℕ) (e : Event) (a : Access) : Type 0 where
  pub node : NodeParts
  pub decl : TaskDecl
  pub task : TaskState
  pub works : IsAtWork S a.core node decl task
  pub later : NodeParts
  pub now : slice_get (next S e).nodes a.core ≡ Some later
  pub phase : a.phase ≡ node.phase
  pub stays : later.phase ≡ node.phase
  pub place : a.place ≡ retired_so_far node.task
  pub retires : retired_so_far later.task ≡ a.place + 1
  pub held : a.held ≡ task.held
  pub keeps : held_locks later.task ≡ a.held
  pub loads : may_load decl a.held a.word ≡ true
  pub stores : a.written ≢ None → may_store decl a.held a.word ≡ true
  pub reads : (value : ℕ) → a.read ≡ Some value → value ≡ M a.word

-- a word of a memory after an access, if there is one
abbrev pub value_with : Option Access → (ℕ → ℕ) → ℕ → ℕ
value_with o M w = unwrap_or (option_and_then (written_to w) o) (M w)

pub record IsTold (S : State) (M : ℕ → ℕ) (e : Event) (o : Option Access) : Type 0 where
  pub made : (a : Access) → o ≡ Some a → IsMade S M e a
  pub writes : (w : ℕ) → value_with o M w ≡ stored_to (store_in S e) M w

none-told : (S : State) (M : ℕ → ℕ) (e : Event) → store_in S e ≡ None → IsTold S M e None
none-told S M e none = record { made = λ a is. absurd (none-some a is); writes = λ w. ap (λ (o : Option (WordId × ℕ)). stored_to o M w) (sym none) }

-- a load stores nothing, and a store stores what it writes
load-told : (S : State) (M : ℕ → ℕ) (e : Event) (a : Access) → a.written ≡ None → store_in S e ≡ None → IsMade S M e a → IsTold S M e (Some a)
load-told S M e a loads none made =
    record {
      made = λ b is. subst (IsMade S M e) (same_Some a b is) made;
      writes = λ w. by_word w (a.word == w) ∙ ap (λ (o : Option (WordId × ℕ)). stored_to o M w) (sym none);
    }
  where
    by_word : (w : ℕ) (x : Bool) → unwrap_or (cond x a.written None) (M w) ≡ M w
    by_word w true = rw (loads) refl
    by_word w false = refl

store-told : (S : State) (M : ℕ → ℕ) (e : Event) (a : Access) (word : WordId) (value : ℕ) → a.word ≡ word.0 → a.written ≡ Some value → store_in S e ≡ Some (word, value) → IsMade S M e a
    → IsTold S M e (Some a)
store-told S M e a word value there writes is made =
    record {
      made = λ b same. subst (IsMade S M e) (same_Some a b same) made;
      writes = λ w. rw (there, writes, is) (by_word w (word.0 == w));
    }
  where
    by_word : (w : ℕ) (x : Bool) → unwrap_or (cond x (Some value) None) (M w) ≡ cond x value (M w)
    by_word w true = refl
    by_word w false = refl

-- ---- what an access by an instruction makes

made-by : (S : State) (M : ℕ → ℕ) (core : CoreId) (n : NodeParts) (d : TaskDecl) (t : TaskState) (x : Need) (word : WordId) (read written : Option ℕ) → Going S core n d t x
    → retired_by x (accessed n x) ≡ 1 → held_by t.held x ≡ t.held → may_load d t.held word.0 ≡ true → (written ≢ None → may_store d t.held word.0 ≡ true)
    → ((value : ℕ) → read ≡ Some value → value ≡ M word.0) → IsMade S M (Instr core) (access_by core n word read written)
made-by S M core n d t x word read written g once holds loads stores reads =
    let h = instructed-row S core n (instr_row S.setting n d t x) g.acts.found g.row in
    let parts = instr-parts S.setting n d t x g.acts.task in
    let task = instr-retires S.setting d t x (accessed n x) g.acts.wants in
    let before : retired_so_far n.task ≡ t.retired = ap retired_so_far g.acts.task in
    let had : held_locks n.task ≡ t.held = ap held_locks g.acts.task in
    record {
      node = n;
      decl = d;
      task = t;
      works = acting-works S core n d t x g.acts;
      later = (instr_row S.setting n d t x).0;
      now = h.step.nodes core.0 ∙ rw (same-number core.0) refl;
      phase = refl;
      stays = parts.phase_kept.phase;
      place = refl;
      retires = omega (arith, ap retired_so_far parts.task, task.retired, once, before);
      held = had;
      keeps = ap held_locks parts.task ∙ (task.held ∙ (holds ∙ sym had));
      loads = subst (λ (k : ℕ). may_load d k word.0 ≡ true) (sym had) loads;
      stores = λ some. subst (λ (k : ℕ). may_store d k word.0 ≡ true) (sym had) (stores some);
      reads = reads;
    }

-- the access of an instruction is what it loads or stores
access-is : (S : State) (core : CoreId) (n : NodeParts) (seen : Option LoadSeen) (store : Option (WordId × ℕ)) → slice_get S.nodes core.0 ≡ Some n → seen_in S (Instr core) ≡ seen
    → store_in S (Instr core) ≡ store → access_in S (Instr core) ≡ accessed_by S.setting core n seen store
unfolding access_in
access-is S core n seen store found sees stores = rw (found, sees, stores) refl

-- ---- a load

load-made : (S : State) (M : ℕ → ℕ) (core : CoreId) (n : NodeParts) (d : TaskDecl) (t : TaskState) (word : WordId) → Invariant S M → Going S core n d t (need.TheVariants.Load word)
    → (e : Option Entry) → entry_of n word.0 ≡ e → may_access n word.0 e ≡ true → IsTold S M (Instr core) (access_in S (Instr core))
load-made S M core n d t word inv g e is may = by_entry e is may where
  x : Need
  x = need.TheVariants.Load word

  h : Instructed S core n (instr_row S.setting n d t x)
  h = instructed-row S core n (instr_row S.setting n d t x) g.acts.found g.row

  none : store_in S (Instr core) ≡ None
  none = h.store ∙ written-none S.setting n x g.now (λ k. k)

  right : may_load d t.held word.0 ≡ true
  right = (load-allowed S.setting.program d S.setting.fuel t word g.acts.wants).1

  told : (seen : Option LoadSeen) → seen_in S (Instr core) ≡ seen → IsTold S M (Instr core) (accessed_by S.setting core n seen None) → IsTold S M (Instr core) (access_in S (Instr core))
  told seen sees good = subst (IsTold S M (Instr core)) (sym (access-is S core n seen None g.acts.found sees none)) good

  one : (value : ℕ) → retired_by x (accessed n x) ≡ 1 → value ≡ M word.0 → seen_in S (Instr core) ≡ Some (record { word = word; value = value }) → IsTold S M (Instr core) (access_in S (Instr core))
  one value once true_value sees =
      told (Some (record { word = word; value = value })) sees
      (load-told S M (Instr core) (access_by core n word (Some value) None) refl none
      (made-by S M core n d t x word (Some value) None g once refl right (λ some. absurd (some refl)) (λ v same. sym (same_Some value v same) ∙ true_value)))

  by_entry : (e : Option Entry) → entry_of n word.0 ≡ e → may_access n word.0 e ≡ true → IsTold S M (Instr core) (access_in S (Instr core))
  by_entry None is may = told None (h.seen ∙ rw (is) refl) (none-told S M (Instr core) none)
  by_entry (Some (Valid value marked)) is may =
      one value (rw (is) refl) (copy-loaded S M core n d t word x value marked inv (inl refl) g.acts is) (h.seen ∙ rw (is) refl)
  by_entry (Some (Registered value pending)) is may =
      one value (rw (is) refl) (own-loaded S M core n d t word x value pending inv (inl refl) g.acts is) (h.seen ∙ rw (is) refl)
  by_entry (Some (Leaving value)) is may = absurd (cc)

-- ---- a store

-- a store that retires, which keeps a part of the value that it reads, if it reads one
stored-made : (S : State) (M : ℕ → ℕ) (core : CoreId) (n : NodeParts) (d : TaskDecl) (t : TaskState) (word : WordId) (whole : Bool) (read : Option ℕ) (value : ℕ)
    → Going S core n d t (need.TheVariants.Store word whole) → kept_by n (Some (need.TheVariants.Store word whole)) ≡ read → completes whole (entry_of n word.0) ≡ true
    → ((v : ℕ) → read ≡ Some v → v ≡ M word.0) → written_by S.setting t word whole (entry_of n word.0) ≡ Some (word, value) → IsTold S M (Instr core) (access_in S (Instr core))
stored-made S M core n d t word whole read value g keeps once reads writes = subst (IsTold S M (Instr core)) (sym is) (store-told S M (Instr core) a word value refl refl stores made) where
  x : Need
  x = need.TheVariants.Store word whole

  h : Instructed S core n (instr_row S.setting n d t x)
  h = instructed-row S core n (instr_row S.setting n d t x) g.acts.found g.row

  a : Access
  a = access_by core n word read (Some value)

  stores : store_in S (Instr core) ≡ Some (word, value)
  stores = h.store ∙ (written-is S.setting n t word whole g.acts.task g.now ∙ writes)

  right : may_store d t.held word.0 ≡ true
  right = (store-allowed S.setting.program d S.setting.fuel t word whole g.acts.wants).1

  made : IsMade S M (Instr core) a
  made = made-by S M core n d t x word read (Some value) g (rw (once) refl) refl (store-loads d t.held word.0 right) (λ some. right) reads

  is : access_in S (Instr core) ≡ Some a
  is =
      access-is S core n None (Some (word, value)) g.acts.found (h.seen ∙ (instr-parts S.setting n d t x g.acts.task).seen) stores
      ∙ ap (λ (o : Option ℕ). Some (access_by core n word o (Some value))) (ap (kept_by n) g.now ∙ keeps)

-- a store of a word without entry that has to read the word first
missing-made : (S : State) (M : ℕ → ℕ) (core : CoreId) (n : NodeParts) (d : TaskDecl) (t : TaskState) (word : WordId) → Going S core n d t (need.TheVariants.Store word false) → entry_of n word.0 ≡ None
    → IsTold S M (Instr core) (access_in S (Instr core))
missing-made S M core n d t word g none =
    let x : Need = need.TheVariants.Store word false in
    let h = instructed-row S core n (instr_row S.setting n d t x) g.acts.found g.row in
    let stores : store_in S (Instr core) ≡ None = h.store ∙ (written-is S.setting n t word false g.acts.task g.now ∙ ap (written_by S.setting t word false) none) in
    subst (IsTold S M (Instr core)) (sym (access-is S core n None None g.acts.found (h.seen ∙ (instr-parts S.setting n d t x g.acts.task).seen) stores)) (none-told S M (Instr core) stores)

store-made : (S : State) (M : ℕ → ℕ) (core : CoreId) (n : NodeParts) (d : TaskDecl) (t : TaskState) (word : WordId) (whole : Bool) → Invariant S M
    → Going S core n d t (need.TheVariants.Store word whole) → (e : Option Entry) → entry_of n word.0 ≡ e → may_access n word.0 e ≡ true → IsTold S M (Instr core) (access_in S (Instr core))
store-made S M core n d t word true inv g None is may =
    stored-made S M core n d t word true None (merged_of S.setting.program 0 t) g refl (ap (completes true) is) (λ v some. absurd (cc)) (ap (written_by S.setting t word true) is)
store-made S M core n d t word true inv g (Some (Valid old marked)) is may =
    stored-made S M core n d t word true None (merged_of S.setting.program old t) g refl (ap (completes true) is) (λ v some. absurd (cc)) (ap (written_by S.setting t word true) is)
store-made S M core n d t word true inv g (Some (Registered old pending)) is may =
    stored-made S M core n d t word true None (merged_of S.setting.program old t) g refl (ap (completes true) is) (λ v some. absurd (cc)) (ap (written_by S.setting t word true) is)
store-made S M core n d t word false inv g None is may = missing-made S M core n d t word g is
store-made S M core n d t word false inv g (Some (Valid old marked)) is may =
    stored-made S M core n d t word false (Some old) (merged_of S.setting.program old t) g (ap (λ (e : Option Entry). Some (value_in_entry e)) is) (ap (completes false) is)
    (λ v some. sym (same_Some old v some) ∙ copy-loaded S M core n d t word (need.TheVariants.Store word false) old marked inv (inr refl) g.acts is) (ap (written_by S.setting t word false) is)
store-made S M core n d t word false inv g (Some (Registered old pending)) is may =
    stored-made S M core n d t word false (Some old) (merged_of S.setting.program old t) g (ap (λ (e : Option Entry). Some (value_in_entry e)) is) (ap (completes false) is)
    (λ v some. sym (same_Some old v some) ∙ own-loaded S M core n d t word (need.TheVariants.Store word false) old pending inv (inr refl) g.acts is) (ap (written_by S.setting t word false) is)
store-made S M core n d t word whole inv g (Some (Leaving old)) is may = absurd (cc)

-- ---- every event

-- an instruction that accesses no word
quiet-made : (S : State) (M : ℕ → ℕ) (core : CoreId) (n : NodeParts) (d : TaskDecl) (t : TaskState) (x : Need) → Going S core n d t x → (IsStore x → ⊥) → seen_by x (accessed n x) ≡ None
    → IsTold S M (Instr core) (access_in S (Instr core))
quiet-made S M core n d t x g other blind =
    let h = instructed-row S core n (instr_row S.setting n d t x) g.acts.found g.row in
    let stores : store_in S (Instr core) ≡ None = h.store ∙ written-none S.setting n x g.now other in
    subst (IsTold S M (Instr core)) (sym (access-is S core n None None g.acts.found (h.seen ∙ ((instr-parts S.setting n d t x g.acts.task).seen ∙ blind)) stores)) (none-told S M (Instr core) stores)

instr-made : (S : State) (M : ℕ → ℕ) (core : CoreId) (n : NodeParts) (d : TaskDecl) (t : TaskState) → Invariant S M → (x : Need) → Going S core n d t x → IsTold S M (Instr core) (access_in S (Instr core))
instr-made S M core n d t inv need.TheVariants.Local g = quiet-made S M core n d t need.TheVariants.Local g (λ k. k) refl
instr-made S M core n d t inv (need.TheVariants.End by) g = quiet-made S M core n d t (need.TheVariants.End by) g (λ k. k) refl
instr-made S M core n d t inv (need.TheVariants.Acquire lock) g = quiet-made S M core n d t (need.TheVariants.Acquire lock) g (λ k. k) refl
instr-made S M core n d t inv (need.TheVariants.Release lock) g = quiet-made S M core n d t (need.TheVariants.Release lock) g (λ k. k) refl
instr-made S M core n d t inv (need.TheVariants.Load word) g = load-made S M core n d t word inv g (entry_of n word.0) refl g.allows
instr-made S M core n d t inv (need.TheVariants.Store word whole) g = store-made S M core n d t word whole inv g (entry_of n word.0) refl g.allows

pub access-told : (S : State) (M : ℕ → ℕ) (e : Event) → Invariant S M → enabled S e ≡ true → IsTold S M e (access_in S e)
unfolding access_in store_in
access-told S M (Instr core) inv may =
    let at = instr-there S core may in
    let i = may-instruct S.setting at.node at.passes in
    instr-made S M core at.node i.decl i.task inv i.needs (going S core at.node at.found ((inv.machine.node core.0 at.node at.found).core) i)
access-told S M (Evict core word) inv may = none-told S M (Evict core word) refl
access-told S M (Arrive core) inv may = none-told S M (Arrive core) refl
access-told S M (Handle id) inv may = none-told S M (Handle id) refl
