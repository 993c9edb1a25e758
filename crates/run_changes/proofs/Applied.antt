-- The changes of a node, applied to what it was, give what it is.
use Rattle.std.proofs.Common.{◌≡◌, ◌⊎◌, ℕ, ◌+◌, ◌==◌, Bool, true, false, cond, List, [], ◌∷◌, ◌++◌, slice_index_or, Option, Some, None, refl, sym, ap, ◌∙◌, arith}
use mathlib.Core.Logic.{inl, inr}
use Rattle.std.specs.List.{fold}
use Rattle.std.proofs.lemmas.Bool.Decides.{nat_tests}
use Rattle.std.proofs.lemmas.List.Sums.{fold-append}
use Rattle.dn_base.specs.declared.ids.LockId.{LockId}
use Rattle.dn_base.specs.declared.ids.WordId.{WordId}
use Rattle.dn_base.specs.declared.ids.LoadSeen.{LoadSeen}
use Rattle.rv_core.specs.declared.need.Need.{Need}
use Rattle.rv_core.specs.declared.need.Need.TheVariants as need
use Rattle.rv_core.specs.declared.task.End.{End}
use Rattle.rv_core.specs.declared.task.TaskState.{TaskState}
use Rattle.rv_core.specs.Access.{is_held}
use Rattle.write_signature.specs.declared.signature.Signature.{Signature}
use Rattle.word_cache.specs.declared.row.Entry.{Entry}
use Rattle.word_cache.specs.declared.row.Entry.TheVariants.{Valid, Registered, Leaving}
use Rattle.registration_protocol.specs.declared.node.NodeWait.{NodeWait}
use Rattle.registration_protocol.specs.declared.node.NodeWait.TheVariants as wait
use Rattle.registration_protocol.specs.Node.{NodeParts, entry_of}
use Rattle.run_changes.specs.declared.change.Change.{Change}
use Rattle.run_changes.specs.declared.change.Change.TheVariants as change
use Rattle.run_changes.specs.declared.look.EntryBefore.{EntryBefore}
use Rattle.run_changes.specs.declared.look.NodeLook.{NodeLook}
use Rattle.run_changes.specs.Looks.{node_look}
use Rattle.run_changes.specs.Changes.{change_unless, same_entry, entry_change, change_before, entry_changes, end_change, task_change, locks_held, same_wait, wait_change, hold_change, sign_change, lock_changes, flag_change, node_changes, load_change, has_retired, store_change, core_changes}
use Rattle.run_changes.specs.Applied.{entry_step, wait_step, arrived_step, halted_step, AreEntriesOf, is_among, AreLookedAt}

-- ---- which changes a part of a node's changes has

abbrev pub Every : {X : Type 0} → (X → Type 0) → List X → Type 0
Every P [] = Unit {0}
Every P (x ∷ xs) = P x × Every P xs

pub all-append : {X : Type 0} (P : X → Type 0) (xs ys : List X) → Every P xs → Every P ys → Every P (xs ++ ys)
all-append P [] ys a b = b
all-append P (x ∷ xs) ys a b = (a.0, all-append P xs ys a.1 b)

pub all-unless : (P : Change → Type 0) (same : Bool) (c : Change) → P c → Every P (change_unless same c)
all-unless P true c p = tt
all-unless P false c p = (p, tt)

module _ (P : Change → Type 0) (gone : (w : WordId) → P (change.Gone w)) (holds : (w : WordId) (e : Entry) → P (change.Holds w e)) where
  all-entry : (w : WordId) (before after : Option Entry) → Every P (entry_change w before after)
  all-entry w None None = tt
  all-entry w (Some e) None = (gone w, tt)
  all-entry w None (Some f) = (holds w f, tt)
  all-entry w (Some e) (Some f) = all-unless P (same_entry e f) (change.Holds w f) (holds w f)

  pub all-entries : (m : NodeParts) (es : List EntryBefore) → Every P (entry_changes m es)
  all-entries m [] = tt
  all-entries m (e ∷ es) = all-append P (change_before m e) (entry_changes m es) (all-entry e.word e.entry (entry_of m e.word.0)) (all-entries m es)

module _ (P : Change → Type 0) (retired : (pc : ℕ) → P (change.Retired pc)) (ended : (by : End) → P (change.Ended by)) where
  all-end : (t u : TaskState) (end : Option End) → Every P (end_change t u end)
  all-end t u None = all-unless P (t.retired == u.retired) (change.Retired u.pc) (retired u.pc)
  all-end t u (Some by) = all-unless P _ (change.Ended by) (ended by)

  pub all-task : (t u : Option TaskState) → Every P (task_change t u)
  all-task None u = tt
  all-task (Some t) None = tt
  all-task (Some t) (Some u) = all-end t u u.end

module _ (P : Change → Type 0) (takes : (l : LockId) → P (change.Takes l)) (gives : (l : LockId) → P (change.Gives l)) (signed : (l : LockId) (s : Signature) → P (change.Signed l s)) where
  all-hold : (l : ℕ) (a b : Bool) → Every P (hold_change l a b)
  all-hold l false true = (takes (record { 0 = l }), tt)
  all-hold l true false = (gives (record { 0 = l }), tt)
  all-hold l true true = tt
  all-hold l false false = tt

  pub all-locks : (a b : ℕ) (ss : List Signature) (l : ℕ) (ts : List Signature) → Every P (lock_changes a b ss l ts)
  all-locks a b ss l [] = tt
  all-locks a b ss l (t ∷ ts) =
      all-append P (hold_change l (is_held a l) (is_held b l)) _ (all-hold l (is_held a l) (is_held b l))
      (all-append P (sign_change l (slice_index_or ss l t) t) (lock_changes a b ss (l + 1) ts) (all-unless P _ (change.Signed (record { 0 = l }) t) (signed (record { 0 = l }) t)) (all-locks a b ss (l + 1) ts))

pub all-flag : (P : Change → Type 0) (a b : Bool) (c : Change) → P c → Every P (flag_change a b c)
all-flag P false true c p = (p, tt)
all-flag P true true c p = tt
all-flag P true false c p = tt
all-flag P false false c p = tt

module _ (P : Change → Type 0) (loaded : (s : LoadSeen) → P (change.Loaded s)) (stored : (w : WordId) (v : ℕ) → P (change.Stored w v)) where
  all-load : (seen : Option LoadSeen) → Every P (load_change seen)
  all-load None = tt
  all-load (Some s) = (loaded s, tt)

  all-if : (t : Bool) (w : WordId) (v : ℕ) → Every P (cond t (change.Stored w v ∷ []) [])
  all-if true w v = (stored w v, tt)
  all-if false w v = tt

  all-store : (look : NodeLook) (m : NodeParts) (x : Option Need) → Every P (store_change look m x)
  all-store look m None = tt
  all-store look m (Some need.Local) = tt
  all-store look m (Some (need.Load word)) = tt
  all-store look m (Some (need.Acquire lock)) = tt
  all-store look m (Some (need.Release lock)) = tt
  all-store look m (Some (need.End by)) = tt
  all-store look m (Some (need.Store word whole)) = all-if (has_retired look.task m.task) word _

-- ---- steps that a change leaves alone

abbrev pub Leaves : {X : Type 0} → (X → Change → X) → Change → Type 0
Leaves {X} step c = (x : X) → step x c ≡ x

pub steady : {X : Type 0} (step : X → Change → X) (x : X) (cs : List Change) → Every (Leaves step) cs → fold step x cs ≡ x
steady step x [] all = refl
steady step x (c ∷ cs) all = ap (λ y. fold step y cs) (all.0 x) ∙ steady step x cs all.1

pub skip : {X : Type 0} (step : X → Change → X) (x : X) (cs ds : List Change) → Every (Leaves step) cs → fold step x (cs ++ ds) ≡ fold step x ds
skip step x cs ds all = fold-append step x cs ds ∙ ap (λ y. fold step y ds) (steady step x cs all)

pub behind : {X : Type 0} (step : X → Change → X) (x y : X) (cs ds : List Change) → fold step x cs ≡ y → Every (Leaves step) ds → fold step x (cs ++ ds) ≡ y
behind step x y cs ds is all = fold-append step x cs ds ∙ steady step (fold step x cs) ds all ∙ is

equal-numbers : (a b : ℕ) → (a == b) ≡ true → a ≡ b
equal-numbers a b e = grind (arith, nat_tests, e)

unequal-numbers : (a b : ℕ) → (a == b) ≡ false → a ≡ b → ⊥
unequal-numbers a b e same = grind (arith, nat_tests, e, same)

-- ---- entries

entries-same : (a b : Entry) → same_entry a b ≡ true → a ≡ b
entries-same (Valid a true) (Valid b true) e = grind (arith, nat_tests, e)
entries-same (Valid a false) (Valid b false) e = grind (arith, nat_tests, e)
entries-same (Registered a true) (Registered b true) e = grind (arith, nat_tests, e)
entries-same (Registered a false) (Registered b false) e = grind (arith, nat_tests, e)
entries-same (Leaving a) (Leaving b) e = grind (arith, nat_tests, e)
entries-same (Valid a true) (Valid b false) e = cc
entries-same (Valid a true) (Registered b true) e = cc
entries-same (Valid a true) (Registered b false) e = cc
entries-same (Valid a true) (Leaving b) e = cc
entries-same (Valid a false) (Valid b true) e = cc
entries-same (Valid a false) (Registered b true) e = cc
entries-same (Valid a false) (Registered b false) e = cc
entries-same (Valid a false) (Leaving b) e = cc
entries-same (Registered a true) (Valid b true) e = cc
entries-same (Registered a true) (Valid b false) e = cc
entries-same (Registered a true) (Registered b false) e = cc
entries-same (Registered a true) (Leaving b) e = cc
entries-same (Registered a false) (Valid b true) e = cc
entries-same (Registered a false) (Valid b false) e = cc
entries-same (Registered a false) (Registered b true) e = cc
entries-same (Registered a false) (Leaving b) e = cc
entries-same (Leaving a) (Valid b true) e = cc
entries-same (Leaving a) (Valid b false) e = cc
entries-same (Leaving a) (Registered b true) e = cc
entries-same (Leaving a) (Registered b false) e = cc

waits-same : (a b : NodeWait) → same_wait a b ≡ true → a ≡ b
waits-same wait.None wait.None e = refl
waits-same (wait.Reading a) (wait.Reading b) e = ap (λ (k : ℕ). wait.Reading (record { 0 = k })) (equal-numbers a.0 b.0 e)
waits-same (wait.Filled a) (wait.Filled b) e = ap (λ (k : ℕ). wait.Filled (record { 0 = k })) (equal-numbers a.0 b.0 e)
waits-same (wait.Locking a) (wait.Locking b) e = ap (λ (k : ℕ). wait.Locking (record { 0 = k })) (equal-numbers a.0 b.0 e)
waits-same wait.None (wait.Reading b) e = cc
waits-same wait.None (wait.Filled b) e = cc
waits-same wait.None (wait.Locking b) e = cc
waits-same (wait.Reading a) wait.None e = cc
waits-same (wait.Reading a) (wait.Filled b) e = cc
waits-same (wait.Reading a) (wait.Locking b) e = cc
waits-same (wait.Filled a) wait.None e = cc
waits-same (wait.Filled a) (wait.Reading b) e = cc
waits-same (wait.Filled a) (wait.Locking b) e = cc
waits-same (wait.Locking a) wait.None e = cc
waits-same (wait.Locking a) (wait.Reading b) e = cc
waits-same (wait.Locking a) (wait.Filled b) e = cc

-- the change of the wait, and of a flag that only rises
pub wait-leads : (a b : NodeWait) → fold wait_step a (wait_change a b) ≡ b
wait-leads a b = by_test (same_wait a b) refl where
  by_test : (t : Bool) → same_wait a b ≡ t → fold wait_step a (change_unless t (change.Waits b)) ≡ b
  by_test true e = waits-same a b e
  by_test false e = refl

pub arrived-leads : (a b : Bool) → (a ≡ true → b ≡ true) → fold arrived_step a (flag_change a b change.Arrived) ≡ b
arrived-leads false true rises = refl
arrived-leads false false rises = refl
arrived-leads true true rises = refl
arrived-leads true false rises = sym (rises refl)

pub halted-leads : (a b : Bool) → (a ≡ true → b ≡ true) → fold halted_step a (flag_change a b change.Halted) ≡ b
halted-leads false true rises = refl
halted-leads false false rises = refl
halted-leads true true rises = refl
halted-leads true false rises = sym (rises refl)

-- one word that is looked at
module _ (w : ℕ) where
  of-word : (word : WordId) (b a x : Option Entry) → (word.0 == w) ≡ true → (x ≡ b) ⊎ (x ≡ a) → fold (entry_step w) x (entry_change word b a) ≡ a
  of-word word None None x t (inl e) = e
  of-word word None None x t (inr e) = e
  of-word word (Some e) None x t is = rw (t) refl
  of-word word None (Some f) x t is = rw (t) refl
  of-word word (Some e) (Some f) x t is = by_test (same_entry e f) refl where
    by_test : (s : Bool) → same_entry e f ≡ s → fold (entry_step w) x (change_unless s (change.Holds word f)) ≡ Some f
    by_test false d = rw (t) refl
    by_test true d = by_case is where
      by_case : (x ≡ Some e) ⊎ (x ≡ Some f) → x ≡ Some f
      by_case (inl p) = p ∙ ap (λ (g : Entry). Some g) (entries-same e f d)
      by_case (inr p) = p

  of-another : (word : WordId) (b a x : Option Entry) → (word.0 == w) ≡ false → fold (entry_step w) x (entry_change word b a) ≡ x
  of-another word None None x t = refl
  of-another word (Some e) None x t = rw (t) refl
  of-another word None (Some f) x t = rw (t) refl
  of-another word (Some e) (Some f) x t = by_test (same_entry e f) where
    by_test : (s : Bool) → fold (entry_step w) x (change_unless s (change.Holds word f)) ≡ x
    by_test false = rw (t) refl
    by_test true = refl

module _ (n m : NodeParts) (w : ℕ) where
  -- an entry before or after
  abbrev IsEither : Option Entry → Type 0
  IsEither x = (x ≡ entry_of n w) ⊎ (x ≡ entry_of m w)

  -- what is so once the other words have been looked at too
  abbrev Ends : List EntryBefore → Type 0
  Ends es = (y : Option Entry) → IsEither y → (is_among w es ≡ false → y ≡ entry_of m w) → fold (entry_step w) y (entry_changes m es) ≡ entry_of m w

  one-more : (e : EntryBefore) (es : List EntryBefore) (x : Option Entry) → e.entry ≡ entry_of n e.word.0 → IsEither x → (is_among w (e ∷ es) ≡ false → x ≡ entry_of m w) → Ends es
      → (t : Bool) → (e.word.0 == w) ≡ t → fold (entry_step w) (fold (entry_step w) x (change_before m e)) (entry_changes m es) ≡ entry_of m w
  one-more e es x before is left ends true t = ends (fold (entry_step w) x (change_before m e)) (inr done) (λ f. done) where
    same : e.word.0 ≡ w
    same = equal-numbers e.word.0 w t

    was : IsEither x → (x ≡ e.entry) ⊎ (x ≡ entry_of m e.word.0)
    was (inl p) = inl (p ∙ ap (λ (v : ℕ). entry_of n v) (sym same) ∙ sym before)
    was (inr p) = inr (p ∙ ap (λ (v : ℕ). entry_of m v) (sym same))

    done : fold (entry_step w) x (change_before m e) ≡ entry_of m w
    done = of-word w e.word e.entry (entry_of m e.word.0) x t (was is) ∙ ap (λ (v : ℕ). entry_of m v) same
  one-more e es x before is left ends false t =
      ap (λ (z : Option Entry). fold (entry_step w) z (entry_changes m es)) (of-another w e.word e.entry (entry_of m e.word.0) x t)
      ∙ ends x is (λ f. left (rw (t) f))

  pub sweep : (es : List EntryBefore) → AreEntriesOf n es → Ends es
  sweep [] before x is left = left refl
  sweep (e ∷ es) before x is left =
      fold-append (entry_step w) x (change_before m e) (entry_changes m es) ∙ one-more e es x before.0 is left (sweep es before.1) (e.word.0 == w) refl

-- ---- a whole node

module _ (n m : NodeParts) (es : List EntryBefore) (rest : List Change) where
  abbrev pub parts : List Change
  parts =
      task_change n.task m.task
      ++ (wait_change n.waiting m.waiting
      ++ (lock_changes (locks_held n.task) (locks_held m.task) n.signatures 0 m.signatures
      ++ (flag_change n.arrived m.arrived change.Arrived ++ flag_change n.halted m.halted change.Halted)))

  -- a step that leaves all changes of a node's parts alone
  module _ {X : Type 0} (step : X → Change → X) where
    pub leaves-parts : ((pc : ℕ) → Leaves step (change.Retired pc)) → ((by : End) → Leaves step (change.Ended by)) → ((x : NodeWait) → Leaves step (change.Waits x))
        → ((l : LockId) → Leaves step (change.Takes l)) → ((l : LockId) → Leaves step (change.Gives l)) → ((l : LockId) (s : Signature) → Leaves step (change.Signed l s))
        → Leaves step change.Arrived → Leaves step change.Halted → Every (Leaves step) parts
    leaves-parts retired ended waits takes gives signed arrived halted =
        all-append (Leaves step) (task_change n.task m.task) _ (all-task (Leaves step) retired ended n.task m.task)
        (all-append (Leaves step) (wait_change n.waiting m.waiting) _ (all-unless (Leaves step) (same_wait n.waiting m.waiting) (change.Waits m.waiting) (waits m.waiting))
        (all-append (Leaves step) (lock_changes (locks_held n.task) (locks_held m.task) n.signatures 0 m.signatures) _
        (all-locks (Leaves step) takes gives signed (locks_held n.task) (locks_held m.task) n.signatures 0 m.signatures)
        (all-append (Leaves step) (flag_change n.arrived m.arrived change.Arrived) _ (all-flag (Leaves step) n.arrived m.arrived change.Arrived arrived)
        (all-flag (Leaves step) n.halted m.halted change.Halted halted))))

entries-of-node : (n m : NodeParts) (needs : Option Need) (es : List EntryBefore) (w : ℕ) → AreLookedAt n m es → fold (entry_step w) (entry_of n w) (node_changes (node_look n needs es) m) ≡ entry_of m w
unfolding node_changes
entries-of-node n m needs es w looked = by_test (n.phase == m.phase) where
  swept : fold (entry_step w) (entry_of n w) (entry_changes m es) ≡ entry_of m w
  swept = sweep n m w es looked.before (entry_of n w) (inl refl) (λ f. sym (looked.others w f))

  by_test : (t : Bool) → fold (entry_step w) (entry_of n w) (cond t (entry_changes m es ++ parts n m es []) (change.Begins (record { 0 = m.phase }) ∷ entry_changes m es)) ≡ entry_of m w
  by_test true =
      behind (entry_step w) (entry_of n w) (entry_of m w) (entry_changes m es) (parts n m es []) swept
      (leaves-parts n m es [] (entry_step w) (λ pc x. refl) (λ by x. refl) (λ y x. refl) (λ l x. refl) (λ l x. refl) (λ l s x. refl) (λ x. refl) (λ x. refl))
  by_test false = swept

pub told-all : {X : Type 0} (step : X → Change → X) (n m : NodeParts) (needs : Option Need) (es : List EntryBefore) (seen : Option LoadSeen) → ((s : LoadSeen) → Leaves step (change.Loaded s)) → ((w : WordId) (v : ℕ) → Leaves step (change.Stored w v))
    → Every (Leaves step) (load_change seen ++ store_change (node_look n needs es) m needs)
told-all step n m needs es seen loaded stored =
    all-append (Leaves step) (load_change seen) _ (all-load (Leaves step) loaded stored seen) (all-store (Leaves step) loaded stored (node_look n needs es) m needs)

pub entries-lead : (n m : NodeParts) (needs : Option Need) (es : List EntryBefore) (seen : Option LoadSeen) (w : ℕ) → AreLookedAt n m es
    → fold (entry_step w) (entry_of n w) (core_changes (node_look n needs es) seen (Some m)) ≡ entry_of m w
entries-lead n m needs es seen w looked =
    behind (entry_step w) (entry_of n w) (entry_of m w) (node_changes (node_look n needs es) m) _ (entries-of-node n m needs es w looked)
    (told-all (entry_step w) n m needs es seen (λ s x. refl) (λ v k x. refl))
