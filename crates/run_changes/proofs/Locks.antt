-- The changes of an event lead from the locks that its core's task held, and from the core's signatures, to those that they are.
use Rattle.std.proofs.Common.{◌≡◌, ℕ, zero, suc, ◌+◌, ◌<◌, ◌≤◌, ◌==◌, nat_lt, Bool, true, false, length, List, [], ◌∷◌, ◌++◌, slice_index_or, Option, Some, None, IfSome, refl, sym, ap, ◌∙◌, arith}
use Rattle.std.specs.List.{fold}
use Rattle.std.proofs.lemmas.Bool.{ltb-true, ltb-false}
use Rattle.std.proofs.lemmas.Bool.Decides.{nat_tests}
use Rattle.std.proofs.lemmas.List.{get_or_default, get_or_past}
use Rattle.std.proofs.lemmas.List.Sums.{fold-append}
use Rattle.dn_base.specs.declared.ids.LoadSeen.{LoadSeen}
use Rattle.dn_base.specs.declared.ids.WordId.{WordId}
use Rattle.rv_core.specs.declared.need.Need.{Need}
use Rattle.rv_core.specs.declared.task.End.{End}
use Rattle.rv_core.specs.declared.task.TaskState.{TaskState}
use Rattle.rv_core.specs.Access.{is_held}
use Rattle.rv_core.proofs.HeldLemmas.{holds-none}
use Rattle.write_signature.specs.declared.signature.Signature.{Signature}
use Rattle.write_signature.specs.Signature.{empty, same_signature}
use Rattle.word_cache.specs.declared.row.Entry.{Entry}
use Rattle.registration_protocol.specs.declared.node.NodeWait.{NodeWait}
use Rattle.registration_protocol.specs.Node.{NodeParts, signature_of}
use Rattle.registration_protocol.specs.Fit.{HoldsOwn}
use Rattle.run_changes.specs.declared.change.Change.{Change}
use Rattle.run_changes.specs.declared.change.Change.TheVariants as change
use Rattle.run_changes.specs.declared.look.EntryBefore.{EntryBefore}
use Rattle.run_changes.specs.Looks.{node_look}
use Rattle.run_changes.specs.Changes.{change_unless, entry_changes, task_change, wait_change, same_wait, locks_held, hold_change, sign_change, lock_changes, flag_change, node_changes, core_changes}
use Rattle.run_changes.specs.Applied.{hold_step, signature_step}
use Rattle.run_changes.proofs.Applied.{Every, Leaves, all-append, all-entries, all-task, all-flag, all-unless, steady, skip, behind, told-all, parts}
use Rattle.run_changes.proofs.Status.{StatusMoves, by-phase}

-- signatures that pass the test of their equality are one
pub signatures-same : (a b : Signature) → same_signature a b ≡ true → a ≡ b
signatures-same a b e = made a.low b.low a.high b.high a.phase.0 b.phase.0 (grind (arith, nat_tests, e)) (grind (arith, nat_tests, e)) (grind (arith, nat_tests, e)) where
  of_parts : ℕ → ℕ → ℕ → Signature
  of_parts low high phase = record { low = low; high = high; phase = record { 0 = phase } }

  made : (l m h i p q : ℕ) → l ≡ m → h ≡ i → p ≡ q → of_parts l h p ≡ of_parts m i q
  made l m h i p q e f g = rw (e, f, g) refl

-- locks from k on, none of which is this one
abbrev pub IsApart : ℕ → ℕ → ℕ → Type 0
IsApart l k count = (j : ℕ) → k ≤ j → j < k + count → (j == l) ≡ false

first-apart : (l k count : ℕ) → IsApart l k (suc count) → (k == l) ≡ false
first-apart l k count out = out k (omega arith) (omega arith)

rest-apart : (l k count : ℕ) → IsApart l k (suc count) → IsApart l (k + 1) count
rest-apart l k count out = λ j from within. out j (omega (arith, from)) (omega (arith, within))

pub below-apart : (l k count : ℕ) → l < k → IsApart l k count
below-apart l k count below = λ j from within. grind (arith, nat_tests, below, from)

pub above-apart : (l k count : ℕ) → k + count ≤ l → IsApart l k count
above-apart l k count above = λ j from within. grind (arith, nat_tests, above, within)

same-number : (k : ℕ) → (k == k) ≡ true
same-number k = grind (arith, nat_tests)

-- ---- whether a lock is held

module _ (l : ℕ) where
  hold-here : (k : ℕ) (a b : Bool) → (k == l) ≡ true → fold (hold_step l) a (hold_change k a b) ≡ b
  hold-here k false true t = rw (t) refl
  hold-here k true false t = rw (t) refl
  hold-here k true true t = refl
  hold-here k false false t = refl

  hold-else : (k : ℕ) (a b x : Bool) → (k == l) ≡ false → fold (hold_step l) x (hold_change k a b) ≡ x
  hold-else k false true x t = rw (t) refl
  hold-else k true false x t = rw (t) refl
  hold-else k true true x t = refl
  hold-else k false false x t = refl

  -- one lock, and those behind it
  hold-one : (a b : ℕ) (ss : List Signature) (k : ℕ) (t : Signature) (ts : List Signature) (x y : Bool) → fold (hold_step l) x (hold_change k (is_held a k) (is_held b k)) ≡ y
      → fold (hold_step l) x (lock_changes a b ss k (t ∷ ts)) ≡ fold (hold_step l) y (lock_changes a b ss (k + 1) ts)
  hold-one a b ss k t ts x y is =
      fold-append (hold_step l) x (hold_change k (is_held a k) (is_held b k)) (sign_change k (slice_index_or ss k t) t ++ lock_changes a b ss (k + 1) ts)
      ∙ ap (λ (z : Bool). fold (hold_step l) z (sign_change k (slice_index_or ss k t) t ++ lock_changes a b ss (k + 1) ts)) is
      ∙ skip (hold_step l) y (sign_change k (slice_index_or ss k t) t) (lock_changes a b ss (k + 1) ts) (all-unless (Leaves (hold_step l)) (same_signature (slice_index_or ss k t) t) (change.Signed (record { 0 = k }) t) (λ z. refl))

  pub hold-apart : (a b : ℕ) (ss : List Signature) (k : ℕ) (ts : List Signature) (x : Bool) → IsApart l k (length ts) → fold (hold_step l) x (lock_changes a b ss k ts) ≡ x
  hold-apart a b ss k [] x out = refl
  hold-apart a b ss k (t ∷ ts) x out =
      hold-one a b ss k t ts x x (hold-else k (is_held a k) (is_held b k) x (first-apart l k (length ts) out))
      ∙ hold-apart a b ss (k + 1) ts x (rest-apart l k (length ts) out)

  hold-from : (a b : ℕ) (ss : List Signature) (k : ℕ) (ts : List Signature) (i : ℕ) → k + i ≡ l → i < length ts → fold (hold_step l) (is_held a l) (lock_changes a b ss k ts) ≡ is_held b l
  hold-from a b ss k [] i at within = absurd (omega (arith, within))
  hold-from a b ss k (t ∷ ts) zero at within =
      let same : k ≡ l = omega (arith, at) in
      let here : (k == l) ≡ true = rw (same) (same-number l) in
      let one : fold (hold_step l) (is_held a k) (hold_change k (is_held a k) (is_held b k)) ≡ is_held b k = hold-here k (is_held a k) (is_held b k) here in
      hold-one a b ss k t ts (is_held a l) (is_held b l)
      (ap (λ (j : ℕ). fold (hold_step l) (is_held a j) (hold_change k (is_held a k) (is_held b k))) (sym same) ∙ one ∙ ap (λ (j : ℕ). is_held b j) same)
      ∙ hold-apart a b ss (k + 1) ts (is_held b l) (below-apart l (k + 1) (length ts) (omega (arith, same)))
  hold-from a b ss k (t ∷ ts) (suc i) at within =
      let other : (k == l) ≡ false = grind (arith, nat_tests, at) in
      hold-one a b ss k t ts (is_held a l) (is_held a l) (hold-else k (is_held a k) (is_held b k) (is_held a l) other)
      ∙ hold-from a b ss (k + 1) ts i (omega (arith, at)) (omega (arith, within))

  -- a lock that the program hasn't isn't held
  pub unheld : (o : Option TaskState) (locks : ℕ) → IfSome o (HoldsOwn locks) → locks ≤ l → is_held (locks_held o) l ≡ false
  unheld None locks own past = holds-none l
  unheld (Some t) locks own past = by_test (is_held t.held l) refl where
    by_test : (b : Bool) → is_held t.held l ≡ b → b ≡ false
    by_test false e = refl
    by_test true e = absurd (omega (arith, own l e, past))

  pub holds-on : (a b : ℕ) (ss ts : List Signature) → (length ts ≤ l → is_held a l ≡ is_held b l) → fold (hold_step l) (is_held a l) (lock_changes a b ss 0 ts) ≡ is_held b l
  holds-on a b ss ts past = by_test (nat_lt l (length ts)) refl where
    by_test : (t : Bool) → nat_lt l (length ts) ≡ t → fold (hold_step l) (is_held a l) (lock_changes a b ss 0 ts) ≡ is_held b l
    by_test true e = hold-from a b ss 0 ts l (omega arith) (ltb-true l (length ts) e)
    by_test false e =
        let above : length ts ≤ l = ltb-false l (length ts) e in
        hold-apart a b ss 0 ts (is_held a l) (above-apart l 0 (length ts) (omega (arith, above))) ∙ past above

-- ---- the signature for a lock

module _ (l : ℕ) where
  sign-here : (k : ℕ) (s t : Signature) → (k == l) ≡ true → fold (signature_step l) s (sign_change k s t) ≡ t
  sign-here k s t is = by_test (same_signature s t) refl where
    by_test : (b : Bool) → same_signature s t ≡ b → fold (signature_step l) s (change_unless b (change.Signed (record { 0 = k }) t)) ≡ t
    by_test true e = signatures-same s t e
    by_test false e = rw (is) refl

  sign-else : (k : ℕ) (s t x : Signature) → (k == l) ≡ false → fold (signature_step l) x (sign_change k s t) ≡ x
  sign-else k s t x out = by_test (same_signature s t) where
    by_test : (b : Bool) → fold (signature_step l) x (change_unless b (change.Signed (record { 0 = k }) t)) ≡ x
    by_test true = refl
    by_test false = rw (out) refl

  all-hold-left : (k : ℕ) (a b : Bool) → Every (Leaves (signature_step l)) (hold_change k a b)
  all-hold-left k false true = ((λ x. refl), tt)
  all-hold-left k true false = ((λ x. refl), tt)
  all-hold-left k true true = tt
  all-hold-left k false false = tt

  sign-one : (a b : ℕ) (ss : List Signature) (k : ℕ) (t : Signature) (ts : List Signature) (x y : Signature) → fold (signature_step l) x (sign_change k (slice_index_or ss k t) t) ≡ y
      → fold (signature_step l) x (lock_changes a b ss k (t ∷ ts)) ≡ fold (signature_step l) y (lock_changes a b ss (k + 1) ts)
  sign-one a b ss k t ts x y is =
      skip (signature_step l) x (hold_change k (is_held a k) (is_held b k)) (sign_change k (slice_index_or ss k t) t ++ lock_changes a b ss (k + 1) ts) (all-hold-left k (is_held a k) (is_held b k))
      ∙ fold-append (signature_step l) x (sign_change k (slice_index_or ss k t) t) (lock_changes a b ss (k + 1) ts)
      ∙ ap (λ (z : Signature). fold (signature_step l) z (lock_changes a b ss (k + 1) ts)) is

  sign-apart : (a b : ℕ) (ss : List Signature) (k : ℕ) (ts : List Signature) (x : Signature) → IsApart l k (length ts) → fold (signature_step l) x (lock_changes a b ss k ts) ≡ x
  sign-apart a b ss k [] x out = refl
  sign-apart a b ss k (t ∷ ts) x out =
      sign-one a b ss k t ts x x (sign-else k (slice_index_or ss k t) t x (first-apart l k (length ts) out))
      ∙ sign-apart a b ss (k + 1) ts x (rest-apart l k (length ts) out)

  sign-from : (a b : ℕ) (ss : List Signature) (d : Signature) (k : ℕ) (ts : List Signature) (i : ℕ) → l < length ss → k + i ≡ l → i < length ts
      → fold (signature_step l) (slice_index_or ss l d) (lock_changes a b ss k ts) ≡ slice_index_or ts i d
  sign-from a b ss d k [] i before at within = absurd (omega (arith, within))
  sign-from a b ss d k (t ∷ ts) zero before at within =
      let same : k ≡ l = omega (arith, at) in
      let here : (k == l) ≡ true = rw (same) (same-number l) in
      let one : fold (signature_step l) (slice_index_or ss k t) (sign_change k (slice_index_or ss k t) t) ≡ t = sign-here k (slice_index_or ss k t) t here in
      let was : slice_index_or ss l d ≡ slice_index_or ss k t = get_or_default ss l d t before ∙ ap (λ (j : ℕ). slice_index_or ss j t) (sym same) in
      sign-one a b ss k t ts (slice_index_or ss l d) t (ap (λ (x : Signature). fold (signature_step l) x (sign_change k (slice_index_or ss k t) t)) was ∙ one)
      ∙ sign-apart a b ss (k + 1) ts t (below-apart l (k + 1) (length ts) (omega (arith, same)))
  sign-from a b ss d k (t ∷ ts) (suc i) before at within =
      let other : (k == l) ≡ false = grind (arith, nat_tests, at) in
      sign-one a b ss k t ts (slice_index_or ss l d) (slice_index_or ss l d) (sign-else k (slice_index_or ss k t) t (slice_index_or ss l d) other)
      ∙ sign-from a b ss d (k + 1) ts i before (omega (arith, at)) (omega (arith, within))

  pub signs-on : (a b : ℕ) (ss ts : List Signature) (d : Signature) → length ss ≡ length ts → fold (signature_step l) (slice_index_or ss l d) (lock_changes a b ss 0 ts) ≡ slice_index_or ts l d
  signs-on a b ss ts d long = by_test (nat_lt l (length ts)) refl where
    by_test : (t : Bool) → nat_lt l (length ts) ≡ t → fold (signature_step l) (slice_index_or ss l d) (lock_changes a b ss 0 ts) ≡ slice_index_or ts l d
    by_test true e = sign-from a b ss d 0 ts l (omega (arith, ltb-true l (length ts) e, long)) (omega arith) (ltb-true l (length ts) e)
    by_test false e =
        let above : length ts ≤ l = ltb-false l (length ts) e in
        sign-apart a b ss 0 ts (slice_index_or ss l d) (above-apart l 0 (length ts) (omega (arith, above)))
        ∙ get_or_past ss l d (omega (arith, above, long)) ∙ sym (get_or_past ts l d above)

-- ---- a whole node

module _ {X : Type 0} (step : X → Change → X) (gone : (w : WordId) → Leaves step (change.Gone w)) (holds : (w : WordId) (e : Entry) → Leaves step (change.Holds w e)) (retired : (pc : ℕ) → Leaves step (change.Retired pc))
    (ended : (by : End) → Leaves step (change.Ended by)) (waits : (y : NodeWait) → Leaves step (change.Waits y)) (arrived : Leaves step change.Arrived) (halted : Leaves step change.Halted)
    (loaded : (s : LoadSeen) → Leaves step (change.Loaded s)) (stored : (w : WordId) (v : ℕ) → Leaves step (change.Stored w v)) where
  locks-alone : (x y : X) (n m : NodeParts) (es : List EntryBefore) → fold step x (lock_changes (locks_held n.task) (locks_held m.task) n.signatures 0 m.signatures) ≡ y
      → fold step x (entry_changes m es ++ parts n m es []) ≡ y
  locks-alone x y n m es is =
      skip step x (entry_changes m es) (parts n m es []) (all-entries (Leaves step) gone holds m es)
      ∙ skip step x (task_change n.task m.task) _ (all-task (Leaves step) retired ended n.task m.task)
      ∙ skip step x (wait_change n.waiting m.waiting) _ (all-unless (Leaves step) (same_wait n.waiting m.waiting) (change.Waits m.waiting) (waits m.waiting))
      ∙ behind step x y (lock_changes (locks_held n.task) (locks_held m.task) n.signatures 0 m.signatures) _ is
      (all-append (Leaves step) (flag_change n.arrived m.arrived change.Arrived) _ (all-flag (Leaves step) n.arrived m.arrived change.Arrived arrived)
      (all-flag (Leaves step) n.halted m.halted change.Halted halted))

  to-locks : (x y : X) (n m : NodeParts) (needs : Option Need) (es : List EntryBefore) (seen : Option LoadSeen)
      → ((n.phase == m.phase) ≡ true → fold step x (lock_changes (locks_held n.task) (locks_held m.task) n.signatures 0 m.signatures) ≡ y)
      → ((n.phase == m.phase) ≡ false → step x (change.Begins (record { 0 = m.phase })) ≡ y) → fold step x (core_changes (node_look n needs es) seen (Some m)) ≡ y
  to-locks x y n m needs es seen on anew =
      behind step x y (node_changes (node_look n needs es) m) _
      (by-phase step x y n m needs es (λ e. locks-alone x y n m es (on e))
      (λ e. steady step (step x (change.Begins (record { 0 = m.phase }))) (entry_changes m es) (all-entries (Leaves step) gone holds m es) ∙ anew e))
      (told-all step n m needs es seen loaded stored)

pub held-leads : (n m : NodeParts) (needs : Option Need) (es : List EntryBefore) (seen : Option LoadSeen) (l : ℕ) → StatusMoves n m → IfSome n.task (HoldsOwn (length m.signatures)) → IfSome m.task (HoldsOwn (length m.signatures))
    → fold (hold_step l) (is_held (locks_held n.task) l) (core_changes (node_look n needs es) seen (Some m)) ≡ is_held (locks_held m.task) l
held-leads n m needs es seen l moves own owns =
    to-locks (hold_step l) (λ w x. refl) (λ w e x. refl) (λ pc x. refl) (λ by x. refl) (λ y x. refl) (λ x. refl) (λ x. refl) (λ s x. refl) (λ w v x. refl)
    (is_held (locks_held n.task) l) (is_held (locks_held m.task) l) n m needs es seen
    (λ same. holds-on l (locks_held n.task) (locks_held m.task) n.signatures m.signatures (λ past. unheld l n.task (length m.signatures) own past ∙ sym (unheld l m.task (length m.signatures) owns past)))
    (λ other. sym (ap (λ (held : ℕ). is_held held l) (moves.holds_anew other) ∙ holds-none l))

pub signs-lead : (n m : NodeParts) (needs : Option Need) (es : List EntryBefore) (seen : Option LoadSeen) (l : ℕ) → StatusMoves n m → length n.signatures ≡ length m.signatures
    → fold (signature_step l) (signature_of n l) (core_changes (node_look n needs es) seen (Some m)) ≡ signature_of m l
signs-lead n m needs es seen l moves long =
    to-locks (signature_step l) (λ w x. refl) (λ w e x. refl) (λ pc x. refl) (λ by x. refl) (λ y x. refl) (λ x. refl) (λ x. refl) (λ s x. refl) (λ w v x. refl)
    (signature_of n l) (signature_of m l) n m needs es seen
    (λ same. let phase : n.phase ≡ m.phase = grind (arith, nat_tests, same) in
    signs-on l (locks_held n.task) (locks_held m.task) n.signatures m.signatures (empty n.phase) long ∙ ap (λ (p : ℕ). slice_index_or m.signatures l (empty p)) phase)
    (λ other. sym (moves.signs_anew other l))
