-- What is known of copies after a grant: the lock's signature tells which of them go.
use Rattle.std.proofs.Common.{◌≡◌, ◌⊎◌, inl, inr, ℕ, zero, suc, ◌+◌, ◌≤◌, ◌<◌, ◌==◌, ◌&&◌, Bool, true, false, cond, List, [], ◌∷◌, length, slice_get, slice_index_or, sum_by, Option, Some, None, refl, sym, ap, subst, ◌∙◌, arith}
use Rattle.std.proofs.lemmas.Bool.{eqb-true, or_right}
use Rattle.std.proofs.lemmas.Bool.Decides.{nat_tests}
use Rattle.std.proofs.lemmas.List.Sums.{sum_by-cons}
use Rattle.dn_base.specs.declared.ids.CoreId.{CoreId}
use Rattle.dn_base.specs.declared.ids.LockId.{LockId}
use Rattle.region_table.specs.declared.interval.Interval.{Interval}
use Rattle.region_table.specs.declared.declared.TaskDecl.{TaskDecl}
use Rattle.region_table.specs.Words.{has}
use Rattle.region_table.specs.Plan.{task_guards}
use Rattle.region_table.specs.Tasks.{declared}
use Rattle.region_table.proofs.TaskLemmas.{declared-tells}
use Rattle.region_table.proofs.WrittenLemmas.{plan-at, declared-guarded}
use Rattle.rv_core.specs.declared.task.TaskState.{TaskState}
use Rattle.rv_core.specs.declared.need.Need as need
use Rattle.rv_core.specs.Access.{is_held}
use Rattle.rv_core.specs.Need.{need_of}
use Rattle.rv_core.proofs.Completions.{acquire-allowed, advanced-held}
use Rattle.rv_core.proofs.HeldLemmas.{holds-acquired}
use Rattle.write_signature.specs.declared.signature.Signature.{Signature}
use Rattle.write_signature.specs.Signature.{may_hold, in_phase}
use Rattle.message_net.specs.declared.actor.Actor.{Actor}
use Rattle.message_net.specs.declared.message.Message.{Message}
use Rattle.message_net.specs.declared.message.Message.TheVariants.{Release, Grant}
use Rattle.message_net.specs.declared.message.Outgoing.{Outgoing}
use Rattle.message_net.proofs.PoolLemmas.{weight-somewhere, weight-within}
use Rattle.word_cache.specs.declared.row.Entry.{Entry}
use Rattle.word_cache.specs.declared.row.Entry.TheVariants.{Valid, Registered, Leaving}
use Rattle.word_cache.specs.Cache.{entry_after_grant}
use Rattle.queue_lock.specs.Lock.{Lock, holder_count}
use Rattle.registration_protocol.specs.Node.{NodeParts, entry_of}
use Rattle.registration_protocol.specs.Messages.{holds_now, guarded_by}
use Rattle.registration_protocol.specs.Parts.{held_locks}
use Rattle.registration_protocol.proofs.MessageLemmas.{grant-entries}
use Rattle.machine_rules.specs.State.{State, lock_at}
use Rattle.machine_rules.specs.Flight.{bit, mail_count, flight, is_release_of, is_grant_to}
use Rattle.machine_rules.specs.Coherent.{holds_lock, has_lock, holder_in}
use Rattle.machine_rules.proofs.Bits.{same_signature, signed_in}
use Rattle.machine_rules.proofs.BitLemmas.{bit-true}
use Rattle.machine_rules.proofs.Lists.{get-set}
use Rattle.machine_rules.proofs.Invariant.{Invariant, LocksGood, CopiesGood, MayHaveWritten, MayBeOld, carriers, carried_by, is_carrying, is_unlike, kept_bit}
use Rattle.machine_rules.proofs.Steps.{NodeStep}
use Rattle.machine_rules.proofs.Outcomes.{at_core}
use Rattle.machine_rules.proofs.WordCore.{same-number}
use Rattle.machine_rules.proofs.Exclusive.{in-phase}
use Rattle.machine_rules.proofs.CopyFrames.{uses-kept, behind-kept, writer-kept, guarded-kept}
use Rattle.machine_rules.proofs.CopyNodes.{KeepsSigned, node-now, phase-own, copies-node, fresh-other, own-entry, signed-by}

-- ---- while a grant of a lock is in flight nobody holds it, and no release of it is in flight

pub holder-most : (o : Option Lock) (c : ℕ) → holder_in c o ≤ 1
holder-most None c = omega arith
holder-most (Some h) c = by_holder h.holder where
  by_holder : (o : Option CoreId) → holder_count c o ≤ 1
  by_holder None = omega arith
  by_holder (Some x) = grind (arith, nat_tests)

pub holder-other : (o : Option Lock) (c d : ℕ) → (c == d) ≡ false → holder_in c o + holder_in d o ≤ 1
holder-other None c d e = omega arith
holder-other (Some h) c d e = by_holder h.holder where
  by_holder : (o : Option CoreId) → holder_count c o + holder_count d o ≤ 1
  by_holder None = omega arith
  by_holder (Some x) = grind (arith, nat_tests, e)

granted-alone : (S : State) (l core : ℕ) → LocksGood S → 1 ≤ flight S (is_grant_to l core) → (c : ℕ) → bit (has_lock S c l) + flight S (is_release_of l c) ≡ 0
granted-alone S l core g some c = by_core (core == c) refl where
  by_core : (x : Bool) → (core == c) ≡ x → bit (has_lock S c l) + flight S (is_release_of l c) ≡ 0
  by_core true e =
      let here : 1 ≤ flight S (is_grant_to l c) = subst (λ (x : ℕ). 1 ≤ flight S (is_grant_to l x)) (eqb-true core c e) some in
      omega (arith, here, g.row l c, holder-most (lock_at S l) c)
  by_core false e = omega (arith, some, g.row l core, g.row l c, holder-other (lock_at S l) core c e)

sum-none : (f : NodeParts → ℕ) (xs : List NodeParts) → ((d : ℕ) (n : NodeParts) → slice_get xs d ≡ Some n → f n ≡ 0) → sum_by f xs ≡ 0
sum-none f [] none = refl
sum-none f (x ∷ xs) none = omega (arith, none 0 x refl, sum-none f xs (λ d n. none (suc d) n), sum_by-cons f x xs)

carrying-releases : (l w p : ℕ) (to : Actor) (message : Message) → 1 ≤ bit (is_carrying l w p to message) → (c : ℕ) × (1 ≤ bit (is_release_of l c to message))
carrying-releases l w p to (Release lock core s) some = (core.0, by_test (lock.0 == l) (may_hold s w p) some) where
  by_test : (x y : Bool) → 1 ≤ bit (x && y) → 1 ≤ bit (x && (core.0 == core.0))
  by_test true y one = rw (same-number core.0) (omega arith)
  by_test false y one = absurd (omega (arith, one))
carrying-releases l w p to _ some = absurd (omega (arith, some))

none-carrying : (S : State) (l w p : ℕ) → ((c : ℕ) → flight S (is_release_of l c) ≡ 0) → flight S (is_carrying l w p) ≡ 0
none-carrying S l w p none = by_count (flight S (is_carrying l w p)) refl where
  by_count : (x : ℕ) → flight S (is_carrying l w p) ≡ x → flight S (is_carrying l w p) ≡ 0
  by_count zero is = is
  by_count (suc x) is =
      let some = weight-somewhere (mail_count (is_carrying l w p)) S.mails (omega (arith, is)) in
      let release = carrying-releases l w p some.1.to some.1.message some.3 in
      absurd (omega (arith, release.1, none release.0, weight-within (mail_count (is_release_of l release.0)) S.mails some.0 some.1 some.2))

pub none-carried : (l w p : ℕ) (n : NodeParts) → bit (is_held (held_locks n.task) l) ≡ 0 → carried_by l w p n ≡ 0
none-carried l w p n none = by_test (is_held (held_locks n.task) l) none (signed_in w p (slice_get n.signatures l)) where
  by_test : (x : Bool) → bit x ≡ 0 → (y : Bool) → bit (x && y) ≡ 0
  by_test true one y = absurd (omega (arith, one))
  by_test false one y = refl

-- so the lock's home alone may have a word
kept-alone : (S : State) (l core w : ℕ) → LocksGood S → 1 ≤ flight S (is_grant_to l core) → 1 ≤ carriers S l w → 1 ≤ kept_bit w S.keeper.phase (lock_at S l)
kept-alone S l core w g granted some =
    let alone = granted-alone S l core g granted in
    omega (
      arith,
      some,
      none-carrying S l w S.keeper.phase (λ c. omega (arith, alone c)),
      sum-none (carried_by l w S.keeper.phase) S.nodes (λ d n found. none-carried l w S.keeper.phase n (unheld d n found)),
    )
  where
    unheld : (d : ℕ) (n : NodeParts) → slice_get S.nodes d ≡ Some n → bit (is_held (held_locks n.task) l) ≡ 0
    unheld d n found = omega (arith, granted-alone S l core g granted d, ap (λ (o : Option NodeParts). bit (holds_lock l o)) found)

-- the grant has the signature that the home kept
same-sign : (a b : Signature) → same_signature a b ≡ true → a ≡ b
same-sign a b e =
    let low : a.low ≡ b.low = grind (arith, nat_tests, e) in
    let high : a.high ≡ b.high = grind (arith, nat_tests, e) in
    let phase : a.phase.0 ≡ b.phase.0 = grind (arith, nat_tests, e) in
    ap (λ (x : ℕ). made x a.high a.phase.0) low ∙ (ap (λ (x : ℕ). made b.low x a.phase.0) high ∙ ap (λ (x : ℕ). made b.low b.high x) phase)
  where
    made : ℕ → ℕ → ℕ → Signature
    made low high phase = record { low = low; high = high; phase = record { 0 = phase } }

granted-holds : (S T : State) (core : CoreId) (n m : NodeParts) (lock : LockId) (s : Signature) (w : ℕ) → LocksGood S → NodeStep S T core.0 n m (at_core core (Grant lock s)) None
    → 1 ≤ carriers S lock.0 w → may_hold s w S.keeper.phase ≡ true
granted-holds S T core n m lock s w g step some = by_lock (lock_at S lock.0) refl (kept-alone S lock.0 core.0 w g granted some) where
  granted : 1 ≤ flight S (is_grant_to lock.0 core.0)
  granted = let came = rw (same-number lock.0, same-number core.0) at (step.flown (is_grant_to lock.0 core.0)) in omega (arith, came)

  by_same : (h : Lock) → lock_at S lock.0 ≡ Some h → (x : Bool) → same_signature h.kept s ≡ x → same_signature h.kept s ≡ true
  by_same h is true e = e
  by_same h is false e =
      let came = rw (same-number lock.0, e) at (step.flown (is_unlike lock.0 h.kept)) in
      absurd (omega (arith, came, g.granted lock.0 h is))

  by_lock : (o : Option Lock) → lock_at S lock.0 ≡ o → 1 ≤ kept_bit w S.keeper.phase o → may_hold s w S.keeper.phase ≡ true
  by_lock None is kept = absurd (omega (arith, kept))
  by_lock (Some h) is kept =
      sym (ap (λ (x : Signature). may_hold x w S.keeper.phase) (same-sign h.kept s (by_same h is (same_signature h.kept s) refl))) ∙ bit-true (may_hold h.kept w S.keeper.phase) kept

-- ---- what is left of the copies

after-grant : (s : Signature) (phase : ℕ) (words : List Interval) (w : ℕ) (e : Option Entry) (value : ℕ) (marked : Bool) → entry_after_grant s phase words w e ≡ Some (Valid value marked)
    → (e ≡ Some (Valid value marked)) × ((has words w && may_hold s w phase) ≡ false)
after-grant s phase words w None value marked is = absurd (cc)
after-grant s phase words w (Some (Valid x y)) value marked is = by_test (has words w && may_hold s w phase) is where
  by_test : (t : Bool) → cond t None (Some (Valid x y)) ≡ Some (Valid value marked) → (Some (Valid x y) ≡ Some (Valid value marked)) × (t ≡ false)
  by_test true is = absurd (cc)
  by_test false is = (is, refl)
after-grant s phase words w (Some (Registered x y)) value marked is = absurd (cc)
after-grant s phase words w (Some (Leaving x)) value marked is = absurd (cc)

pub copies-granted : (S T : State) (M : ℕ → ℕ) (core : CoreId) (n : NodeParts) (d : TaskDecl) (t : TaskState) (lock : LockId) (s : Signature) → Invariant S M → n.halted ≡ false → n.arrived ≡ false
    → n.task ≡ Some t → declared S.setting.program n.phase core.0 ≡ Some d → need_of S.setting.program d S.setting.fuel t ≡ need.TheVariants.Acquire lock
    → NodeStep S T core.0 n (holds_now S.setting n t lock s).0 (at_core core (Grant lock s)) None → CopiesGood T M
copies-granted S T M core n d t lock s inv awake absent task declares wants step =
    copies-node S T M M core.0 n m left None inv.copies step
    (λ w value is. uses-kept S T core.0 w step.setting (phase-own S T core.0 n m left None step refl) (inv.copies.marked core.0 w value (own-entry S core.0 n w step.found ∙ (old w value true is).0)))
    (λ w value marked is. own_fresh w value marked (old w value marked is))
    (fresh-other S T M core.0 n m left None inv.copies step signed)
  where
    m : NodeParts
    m = (holds_now S.setting n t lock s).0

    left : Option Outgoing
    left = at_core core (Grant lock s)

    words : List Interval
    words = guarded_by (slice_get S.setting.plans n.phase) lock.0

    allowed : (lock.0 < length S.setting.program.locks) × (is_held t.held lock.0 ≡ false)
    allowed = acquire-allowed S.setting.program d S.setting.fuel t lock wants

    phase : n.phase ≡ S.keeper.phase
    phase = in-phase S M core.0 n d t inv (record { found = step.found; awake = awake; absent = absent; task = task; declares = declares })

    held_was : (l : ℕ) → is_held (held_locks n.task) l ≡ is_held t.held l
    held_was l = rw (task) refl

    held_now : (l : ℕ) → (lock.0 == l) ≡ false → is_held (held_locks m.task) l ≡ is_held (held_locks n.task) l
    held_now l e =
        let turned : (l == lock.0) ≡ false = grind (arith, nat_tests, e) in
        ap (λ (x : ℕ). is_held x l) (advanced-held S.setting.program d S.setting.fuel t (need.TheVariants.Acquire lock) wants tt) ∙ (rw (turned) at (holds-acquired t.held lock.0 l)) ∙ sym (held_was l)

    same_sign : (l : ℕ) → (lock.0 == l) ≡ false → slice_get m.signatures l ≡ slice_get n.signatures l
    same_sign l e = rw (e) at (get-set n.signatures lock.0 l (in_phase n.phase s))

    carries : (l w : ℕ) → carried_by l w S.keeper.phase n ≤ carried_by l w S.keeper.phase m + 0
    carries l w = by_lock (lock.0 == l) refl where
      by_lock : (x : Bool) → (lock.0 == l) ≡ x → carried_by l w S.keeper.phase n ≤ carried_by l w S.keeper.phase m + 0
      by_lock true e =
          let none : is_held (held_locks n.task) l ≡ false = held_was l ∙ subst (λ (x : ℕ). is_held t.held x ≡ false) (eqb-true lock.0 l e) allowed.1 in
          omega (arith, none-carried l w S.keeper.phase n (ap bit none))
      by_lock false e =
          let same : carried_by l w S.keeper.phase m ≡ carried_by l w S.keeper.phase n =
          ap (λ (x : Bool). bit (x && signed_in w S.keeper.phase (slice_get m.signatures l))) (held_now l e)
          ∙ ap (λ (o : Option Signature). bit (is_held (held_locks n.task) l && signed_in w S.keeper.phase o)) (same_sign l e) in
          omega (arith, same)

    signed : KeepsSigned S T
    signed = signed-by S T core.0 n m left None step carries (λ l w. refl)

    old : (w value : ℕ) (marked : Bool) → entry_of m w ≡ Some (Valid value marked) → (entry_of n w ≡ Some (Valid value marked)) × ((has words w && may_hold s w n.phase) ≡ false)
    old w value marked is =
        after-grant s n.phase words w (entry_of n w) value marked (sym (grant-entries S.setting n t lock s w ((inv.machine.node core.0 n step.found).fits).cache) ∙ is)

    -- a word that a task of the phase may write under the lock is in the plan
    planned : (w : ℕ) → (may : MayHaveWritten S core.0 w) → may.lock ≡ lock.0 → has words w ≡ true
    planned w may same =
        let told = declared-tells S.setting.program S.keeper.phase may.core may.decl may.declares in
        let found = plan-at S.setting.program S.setting.plans S.keeper.phase told.phase inv.machine.context.plans told.there in
        let guards : task_guards may.decl lock.0 w ≡ true =
        or_right (has (slice_index_or may.decl.effects.guarded_reads lock.0 []) w) (has (slice_index_or may.decl.effects.guarded_writes lock.0 []) w)
        (subst (λ (x : ℕ). has (slice_index_or may.decl.effects.guarded_writes x []) w ≡ true) same may.writes) in
        let in_plan = declared-guarded S.setting.program S.setting.plans S.keeper.phase may.core may.decl found.plan lock.0 w inv.machine.context.plans may.declares found.there allowed.0 guards in
        let plan_now : slice_get S.setting.plans n.phase ≡ Some found.plan = subst (λ (x : ℕ). slice_get S.setting.plans x ≡ Some found.plan) (sym phase) found.there in
        rw (plan_now) in_plan

    by_guarded : (w value : ℕ) (marked : Bool) → (has words w && may_hold s w n.phase) ≡ false → (may : MayHaveWritten S core.0 w) → (x : Bool) → (lock.0 == may.lock) ≡ x → MayHaveWritten T core.0 w
    by_guarded w value marked stays may true e =
        let same : lock.0 ≡ may.lock = eqb-true lock.0 may.lock e in
        let some : 1 ≤ carriers S lock.0 w = subst (λ (x : ℕ). 1 ≤ carriers S x w) (sym same) may.signed in
        let held : may_hold s w n.phase ≡ true = subst (λ (x : ℕ). may_hold s w x ≡ true) (sym phase) (granted-holds S T core n m lock s w inv.locks step some) in
        let in_words : has words w ≡ true = planned w may (sym same) in
        let both : (has words w && may_hold s w n.phase) ≡ true = rw (in_words, held) refl in
        absurd (cc)
    by_guarded w value marked stays may false e =
        guarded-kept S T core.0 w step.setting (rw (step.keeper) refl) may
        (ap (λ (o : Option NodeParts). holds_lock may.lock o) (node-now S T core.0 n m left None step) ∙ held_now may.lock e ∙ sym (ap (λ (o : Option NodeParts). holds_lock may.lock o) step.found) ∙ may.unheld)
        (signed may.lock w may.signed)

    by_reason : (w value : ℕ) (marked : Bool) → (has words w && may_hold s w n.phase) ≡ false → (value ≡ M w) ⊎ MayBeOld S core.0 w marked → (value ≡ M w) ⊎ MayBeOld T core.0 w marked
    by_reason w value marked stays (inl same) = inl same
    by_reason w value marked stays (inr (inl behind)) = inr (inl (behind-kept S T core.0 w marked step.setting (rw (step.keeper) refl) (phase-own S T core.0 n m left None step refl) behind))
    by_reason w value marked stays (inr (inr (inl writer))) = inr (inr (inl (writer-kept S T core.0 w step.setting (rw (step.keeper) refl) writer)))
    by_reason w value marked stays (inr (inr (inr may))) = inr (inr (inr (by_guarded w value marked stays may (lock.0 == may.lock) refl)))

    own_fresh : (w value : ℕ) (marked : Bool) → (entry_of n w ≡ Some (Valid value marked)) × ((has words w && may_hold s w n.phase) ≡ false) → (value ≡ M w) ⊎ MayBeOld T core.0 w marked
    own_fresh w value marked (was, stays) = by_reason w value marked stays (inv.copies.fresh core.0 w value marked (own-entry S core.0 n w step.found ∙ was))
