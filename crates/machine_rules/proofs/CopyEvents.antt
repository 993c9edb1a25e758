-- What is known of copies after a load, an answer and a release, and after what homes and the keeper do.
use Rattle.std.proofs.Common.{◌≡◌, ◌⊎◌, inl, inr, ℕ, ◌+◌, ◌≤◌, ◌==◌, ◌&&◌, ◌||◌, not, nat_lt, Bool, true, false, cond, slice_get, Option, Some, None, refl, sym, ap, subst, ◌∙◌, arith}
use Rattle.std.proofs.lemmas.Bool.{eqb-true}
use Rattle.std.proofs.lemmas.Bool.Decides.{nat_tests}
use Rattle.std.proofs.lemmas.Option.{get_or_from_slice_get}
use Rattle.dn_base.specs.declared.ids.CoreId.{CoreId}
use Rattle.dn_base.specs.declared.ids.WordId.{WordId}
use Rattle.dn_base.specs.declared.ids.LockId.{LockId}
use Rattle.dn_base.specs.declared.ids.BankId.{BankId}
use Rattle.region_table.specs.declared.declared.TaskDecl.{TaskDecl}
use Rattle.region_table.specs.Plan.{uses_plainly}
use Rattle.rv_core.specs.declared.task.TaskState.{TaskState}
use Rattle.rv_core.specs.declared.need.Need as need
use Rattle.rv_core.specs.Access.{is_held}
use Rattle.rv_core.specs.Kinds.{IsLoad}
use Rattle.rv_core.specs.Step.{advanced, loaded_of}
use Rattle.rv_core.proofs.Completions.{advanced-held, loaded-held, release-allowed}
use Rattle.rv_core.proofs.HeldLemmas.{holds-released}
use Rattle.write_signature.specs.declared.signature.Signature.{Signature}
use Rattle.write_signature.specs.Signature.{tag, may_hold, joined}
use Rattle.write_signature.proofs.SignatureLemmas.{joined_covers_first, joined_covers_second}
use Rattle.message_net.specs.declared.message.Message.{Message}
use Rattle.message_net.specs.declared.message.Message.TheVariants.{DataReply, Release, Arrived}
use Rattle.message_net.specs.declared.message.Outgoing.{Outgoing}
use Rattle.message_net.specs.Mail.{to_home}
use Rattle.word_cache.specs.declared.row.Entry.TheVariants.{Valid}
use Rattle.word_cache.specs.Cache.{put}
use Rattle.word_cache.proofs.LookLemmas.{lookup-put}
use Rattle.queue_lock.specs.Lock.{Lock}
use Rattle.registry_bank.specs.declared.bank.BankWord.{BankWord}
use Rattle.phase_barrier.specs.Barrier.{Barrier}
use Rattle.registration_protocol.specs.declared.node.NodeWait as wait
use Rattle.registration_protocol.specs.Node.{NodeParts, entry_of, keeping, signature_of}
use Rattle.registration_protocol.specs.OwnEvents.{retires, with_put}
use Rattle.registration_protocol.specs.Parts.{held_locks}
use Rattle.machine_rules.specs.State.{State, lock_at}
use Rattle.machine_rules.specs.Flight.{bit, is_false_data_reply}
use Rattle.machine_rules.specs.Coherent.{UsesPlainly}
use Rattle.machine_rules.proofs.Bits.{passes, signed_in}
use Rattle.machine_rules.proofs.Invariant.{Invariant, LocksGood, CopiesGood, MayBeOld, carriers, carried_by, is_carrying, is_late, kept_bit}
use Rattle.machine_rules.proofs.Steps.{NodeStep}
use Rattle.machine_rules.proofs.Outcomes.{IsActing, WordStep, LockStep, BarrierStep, to_all, at_core, at_bank, at_keeper}
use Rattle.machine_rules.proofs.WordCore.{same-number}
use Rattle.machine_rules.proofs.Exclusive.{in-phase, acting-works}
use Rattle.machine_rules.proofs.CopyFrames.{uses-kept, copies-still}
use Rattle.machine_rules.proofs.CopyNodes.{IsSteady, IsUnsigned, old-same, node-now, leaves-steady, signed-steady, copies-node, copies-steady, fresh-own, fresh-other, own-entry, steady-same}

-- ---- a load of a copy

-- a core in the keeper's phase isn't behind, whether its copy is marked or not
any-mark : (S : State) (c w : ℕ) (n : NodeParts) (old new : Bool) → slice_get S.nodes c ≡ Some n → n.phase ≡ S.keeper.phase → MayBeOld S c w old → MayBeOld S c w new
any-mark S c w n old new found phase (inl behind) =
    let same : behind.node ≡ n = some-same behind.node n (sym behind.found ∙ found) in
    absurd (omega (arith, behind.phase, ap (λ (x : NodeParts). x.phase) same, phase))
  where
    some-same : (a b : NodeParts) → Some a ≡ Some b → a ≡ b
    some-same a b e = cc
any-mark S c w n old new found phase (inr reason) = inr reason

valid-mark : (x y : ℕ) (a b : Bool) → Some (Valid x a) ≡ Some (Valid y b) → (x ≡ y) × (a ≡ b)
valid-mark x y a b e = (cc, cc)

pub copies-loaded : (S T : State) (M : ℕ → ℕ) (core : CoreId) (n : NodeParts) (d : TaskDecl) (t : TaskState) (word : WordId) (value : ℕ) (marked : Bool) → Invariant S M
    → IsActing S core n d t (need.TheVariants.Load word) → entry_of n word.0 ≡ Some (Valid value marked)
    → NodeStep S T core.0 n (retires (with_put n word (Valid value (marked || uses_plainly d word.0))) (loaded_of S.setting.program value t)) None None → CopiesGood T M
copies-loaded S T M core n d t word value marked inv acts is step =
    copies-node S T M M core.0 n m None None inv.copies step
    (λ w x has. by_marked w x has (word.0 == w) refl)
    (λ w x mark has. by_fresh w x mark has (word.0 == w) refl)
    (fresh-other S T M core.0 n m None None inv.copies step (signed-steady S T core.0 n m None None step steady))
  where
    now : Bool
    now = marked || uses_plainly d word.0

    m : NodeParts
    m = retires (with_put n word (Valid value now)) (loaded_of S.setting.program value t)

    phase : n.phase ≡ S.keeper.phase
    phase = in-phase S M core.0 n d t inv (acting-works S core n d t (need.TheVariants.Load word) acts)

    held : held_locks m.task ≡ held_locks n.task
    held = loaded-held S.setting.program d S.setting.fuel t value (subst IsLoad (sym acts.wants) tt) ∙ sym (ap held_locks acts.task)

    steady : IsSteady S n m None None
    steady = steady-same S n m None None refl held refl (λ l w p. refl)

    entries : (v : ℕ) → entry_of m v ≡ cond (word.0 == v) (Some (Valid value now)) (entry_of n v)
    entries v = lookup-put word (Valid value now) v n.cache.pairs

    of_mark : (x : Bool) → marked ≡ x → (x || uses_plainly d word.0) ≡ true → UsesPlainly T core.0 word.0
    of_mark true e made =
        uses-kept S T core.0 word.0 step.setting (leaves-steady S T core.0 n m None None step steady).node
        (inv.copies.marked core.0 word.0 value (own-entry S core.0 n word.0 step.found ∙ is ∙ ap (λ (b : Bool). Some (Valid value b)) e))
    of_mark false e made =
        record { node = m; found = node-now S T core.0 n m None None step; decl = d; declares = rw (step.setting) acts.declares; plain = made }

    by_marked : (w x : ℕ) → entry_of m w ≡ Some (Valid x true) → (y : Bool) → (word.0 == w) ≡ y → UsesPlainly T core.0 w
    by_marked w x has true f =
        let same = valid-mark value x now true (sym (rw (f) at (entries w)) ∙ has) in
        subst (λ (v : ℕ). UsesPlainly T core.0 v) (eqb-true word.0 w f) (of_mark marked refl same.1)
    by_marked w x has false f =
        uses-kept S T core.0 w step.setting (leaves-steady S T core.0 n m None None step steady).node
        (inv.copies.marked core.0 w x (own-entry S core.0 n w step.found ∙ sym (rw (f) at (entries w)) ∙ has))

    by_reason : (mark : Bool) → (value ≡ M word.0) ⊎ MayBeOld T core.0 word.0 marked → (value ≡ M word.0) ⊎ MayBeOld T core.0 word.0 mark
    by_reason mark (inl same) = inl same
    by_reason mark (inr old) = inr (any-mark T core.0 word.0 m marked mark (node-now S T core.0 n m None None step) (rw (step.keeper) phase) old)

    by_fresh : (w x : ℕ) (mark : Bool) → entry_of m w ≡ Some (Valid x mark) → (y : Bool) → (word.0 == w) ≡ y → (x ≡ M w) ⊎ MayBeOld T core.0 w mark
    by_fresh w x mark has true f =
        let same = valid-mark value x now mark (sym (rw (f) at (entries w)) ∙ has) in
        let before = fresh-own S T M core.0 n inv.copies step.found (leaves-steady S T core.0 n m None None step steady) (signed-steady S T core.0 n m None None step steady) word.0 value marked is in
        subst (λ (v : ℕ). (x ≡ M v) ⊎ MayBeOld T core.0 v mark) (eqb-true word.0 w f)
        (subst (λ (v : ℕ). (v ≡ M word.0) ⊎ MayBeOld T core.0 word.0 mark) same.0 (by_reason mark before))
    by_fresh w x mark has false f =
        fresh-own S T M core.0 n inv.copies step.found (leaves-steady S T core.0 n m None None step steady) (signed-steady S T core.0 n m None None step steady) w x mark (sym (rw (f) at (entries w)) ∙ has)

-- ---- an answer: the new copy has the word's value

pub copies-answered : (S T : State) (M : ℕ → ℕ) (core : CoreId) (n : NodeParts) (word : WordId) (value : ℕ) → Invariant S M
    → NodeStep S T core.0 n (record (keeping n (put word (Valid value false) n.cache.pairs)) { waiting = wait.TheVariants.Filled word }) (at_core core (DataReply word value)) None → CopiesGood T M
copies-answered S T M core n word value inv step =
    copies-node S T M M core.0 n m left None inv.copies step
    (λ w x has. by_marked w x has (word.0 == w) refl)
    (λ w x mark has. by_fresh w x mark has (word.0 == w) refl)
    (fresh-other S T M core.0 n m left None inv.copies step (signed-steady S T core.0 n m left None step steady))
  where
    m : NodeParts
    m = record (keeping n (put word (Valid value false) n.cache.pairs)) { waiting = wait.TheVariants.Filled word }

    left : Option Outgoing
    left = at_core core (DataReply word value)

    steady : IsSteady S n m left None
    steady = steady-same S n m left None refl refl refl (λ l w p. refl)

    entries : (v : ℕ) → entry_of m v ≡ cond (word.0 == v) (Some (Valid value false)) (entry_of n v)
    entries v = lookup-put word (Valid value false) v n.cache.pairs

    truth : value ≡ M word.0
    truth = by_test (value == M word.0) refl where
      by_test : (x : Bool) → (value == M word.0) ≡ x → value ≡ M word.0
      by_test true e = eqb-true value (M word.0) e
      by_test false e = let came = rw (e) at (step.flown (is_false_data_reply M)) in absurd (omega (arith, came, inv.values.replied))

    by_marked : (w x : ℕ) → entry_of m w ≡ Some (Valid x true) → (y : Bool) → (word.0 == w) ≡ y → UsesPlainly T core.0 w
    by_marked w x has true f = let same = valid-mark value x false true (sym (rw (f) at (entries w)) ∙ has) in let wrong = same.1 in absurd (cc)
    by_marked w x has false f =
        uses-kept S T core.0 w step.setting (leaves-steady S T core.0 n m left None step steady).node
        (inv.copies.marked core.0 w x (own-entry S core.0 n w step.found ∙ sym (rw (f) at (entries w)) ∙ has))

    by_fresh : (w x : ℕ) (mark : Bool) → entry_of m w ≡ Some (Valid x mark) → (y : Bool) → (word.0 == w) ≡ y → (x ≡ M w) ⊎ MayBeOld T core.0 w mark
    by_fresh w x mark has true f =
        let same = valid-mark value x false mark (sym (rw (f) at (entries w)) ∙ has) in
        subst (λ (v : ℕ). (x ≡ M v) ⊎ MayBeOld T core.0 v mark) (eqb-true word.0 w f) (inl (sym same.0 ∙ truth))
    by_fresh w x mark has false f =
        fresh-own S T M core.0 n inv.copies step.found (leaves-steady S T core.0 n m left None step steady) (signed-steady S T core.0 n m left None step steady) w x mark (sym (rw (f) at (entries w)) ∙ has)

-- ---- a release carries the lock's signature home

pub copies-released : (S T : State) (M : ℕ → ℕ) (core : CoreId) (n : NodeParts) (d : TaskDecl) (t : TaskState) (lock : LockId) (banks : ℕ) → CopiesGood S M
    → IsActing S core n d t (need.TheVariants.Release lock)
    → NodeStep S T core.0 n (record n { task = Some (advanced S.setting.program t) }) None (to_home banks lock.0 (Release lock core (signature_of n lock.0))) → CopiesGood T M
copies-released S T M core n d t lock banks g acts step =
    copies-steady S T M core.0 n m None sent g step steady (old-same n m (λ v. refl))
  where
    m : NodeParts
    m = record n { task = Some (advanced S.setting.program t) }

    sent : Option Outgoing
    sent = to_home banks lock.0 (Release lock core (signature_of n lock.0))

    p : ℕ
    p = S.keeper.phase

    had : is_held t.held lock.0 ≡ true
    had = (release-allowed S.setting.program d S.setting.fuel t lock acts.wants).1

    was : (l : ℕ) → is_held (held_locks n.task) l ≡ is_held t.held l
    was l = ap (λ (o : Option TaskState). is_held (held_locks o) l) acts.task

    held : (l : ℕ) → is_held (held_locks m.task) l ≡ (not (l == lock.0) && is_held (held_locks n.task) l)
    held l =
        ap (λ (x : ℕ). is_held x l) (advanced-held S.setting.program d S.setting.fuel t (need.TheVariants.Release lock) acts.wants tt)
        ∙ holds-released t.held lock.0 l had ∙ sym (ap (λ (b : Bool). not (l == lock.0) && b) (was l))

    unheld : (l : ℕ) → is_held (held_locks n.task) l ≡ false → is_held (held_locks m.task) l ≡ false
    unheld l none = held l ∙ ap (λ (b : Bool). not (l == lock.0) && b) none ∙ by_test (not (l == lock.0)) where
      by_test : (x : Bool) → (x && false) ≡ false
      by_test true = refl
      by_test false = refl

    signed : (l w : ℕ) → bit (signed_in w p (slice_get n.signatures l)) ≤ bit (may_hold (signature_of n l) w p)
    signed l w = by_get (slice_get n.signatures l) refl where
      by_get : (o : Option Signature) → slice_get n.signatures l ≡ o → bit (signed_in w p o) ≤ bit (may_hold (signature_of n l) w p)
      by_get None is = omega arith
      by_get (Some s) is =
          let same : signature_of n l ≡ s = get_or_from_slice_get n.signatures l s _ is in
          rw (same) (omega arith)

    carries : (l w : ℕ) → carried_by l w p n ≤ carried_by l w p m + passes (is_carrying l w p) sent
    carries l w = by_lock (lock.0 == l) refl where
      by_lock : (x : Bool) → (lock.0 == l) ≡ x → carried_by l w p n ≤ carried_by l w p m + passes (is_carrying l w p) sent
      by_lock true e =
          let same : lock.0 ≡ l = eqb-true lock.0 l e in
          let mine : is_held (held_locks n.task) l ≡ true = was l ∙ subst (λ (x : ℕ). is_held t.held x ≡ true) same had in
          let carried : carried_by l w p n ≡ bit (signed_in w p (slice_get n.signatures l)) = rw (mine) refl in
          let goes : passes (is_carrying l w p) sent ≡ bit (may_hold (signature_of n l) w p) = rw (e) (ap (λ (x : ℕ). bit (may_hold (signature_of n x) w p)) same) in
          omega (arith, carried, goes, signed l w)
      by_lock false e =
          let turned : (l == lock.0) ≡ false = grind (arith, nat_tests, e) in
          let stays : carried_by l w p m ≡ carried_by l w p n = ap (λ (b : Bool). bit (b && signed_in w p (slice_get n.signatures l))) (rw (turned) at (held l)) in
          omega (arith, stays)

    steady : IsSteady S n m None sent
    steady = record { phase = refl; unheld = unheld; carries = carries; came = λ l w. refl }

-- ---- homes and the keeper

-- the home of a word
pub copies-homed : (S T : State) (M : ℕ → ℕ) (w : ℕ) (content : BankWord) (left sent : Option Outgoing) → CopiesGood S M → WordStep S T w content left sent → IsUnsigned left → CopiesGood T M
copies-homed S T M w content left sent g step came =
    copies-still S T M g step.setting step.nodes (rw (step.keeper) refl) signed
  where
    signed : (l v : ℕ) → 1 ≤ carriers S l v → 1 ≤ carriers T l v
    signed l v some = rw (step.keeper, step.nodes) (omega (arith, some, ap (kept_bit v S.keeper.phase) (step.locks l), step.flown (is_carrying l v S.keeper.phase), came l v S.keeper.phase))

-- the home of a lock: what it keeps then has what it kept before, and what comes
pub copies-locked : (S T : State) (M : ℕ → ℕ) (lock : ℕ) (h k : Lock) (left sent : Option Outgoing) → CopiesGood S M → LockStep S T lock k left sent → lock_at S lock ≡ Some h
    → ((w : ℕ) → bit (may_hold h.kept w S.keeper.phase) ≤ bit (may_hold k.kept w S.keeper.phase))
    → ((w : ℕ) → passes (is_carrying lock w S.keeper.phase) left ≤ bit (may_hold k.kept w S.keeper.phase))
    → ((l w : ℕ) → (lock == l) ≡ false → passes (is_carrying l w S.keeper.phase) left ≡ 0) → CopiesGood T M
copies-locked S T M lock h k left sent g step was keeps gets aside =
    copies-still S T M g step.setting step.nodes (rw (step.keeper) refl) signed
  where
    signed : (l w : ℕ) → 1 ≤ carriers S l w → 1 ≤ carriers T l w
    signed l w some = by_lock (lock == l) refl where
      by_lock : (x : Bool) → (lock == l) ≡ x → 1 ≤ carriers T l w
      by_lock true e =
          let same : lock ≡ l = eqb-true lock l e in
          let now = ap (kept_bit w S.keeper.phase) (rw (e) at (step.locks l)) in
          let before = ap (kept_bit w S.keeper.phase) (subst (λ (x : ℕ). lock_at S x ≡ Some h) same was) in
          let got = subst (λ (x : ℕ). passes (is_carrying x w S.keeper.phase) left ≤ bit (may_hold k.kept w S.keeper.phase)) same (gets w) in
          rw (step.keeper, step.nodes) (omega (arith, some, now, before, got, keeps w, step.flown (is_carrying l w S.keeper.phase)))
      by_lock false e =
          let now = ap (kept_bit w S.keeper.phase) (rw (e) at (step.locks l)) in
          rw (step.keeper, step.nodes) (omega (arith, some, now, step.flown (is_carrying l w S.keeper.phase), aside l w e))

-- a release comes home: the signatures are joined, and neither is of a later phase
covers : (a b : Bool) → (a ≡ true → b ≡ true) → bit a ≤ bit b
covers false b more = omega arith
covers true b more = rw (more refl) (omega arith)

pub copies-joined : (S T : State) (M : ℕ → ℕ) (lock : LockId) (core : CoreId) (s : Signature) (bank : BankId) (h k : Lock) (sent : Option Outgoing) → CopiesGood S M → LocksGood S
    → LockStep S T lock.0 k (at_bank bank (Release lock core s)) sent → lock_at S lock.0 ≡ Some h → k.kept ≡ joined h.kept s → passes (is_late S.keeper.phase) sent ≡ 0 → CopiesGood T M
copies-joined S T M lock core s bank h k sent g locks step was is none =
    copies-locked S T M lock.0 h k (at_bank bank (Release lock core s)) sent g step was
    (λ w. rw (is) (covers (may_hold h.kept w p) (may_hold (joined h.kept s) w p) (λ held. joined_covers_first h.kept s w p late held)))
    (λ w. rw (same-number lock.0, is) (covers (may_hold s w p) (may_hold (joined h.kept s) w p) (λ held. joined_covers_second h.kept s w p (locks.kept lock.0 h was) held)))
    (λ l w e. rw (e) refl)
  where
    p : ℕ
    p = S.keeper.phase

    late : tag s ≤ p
    late = by_test (nat_lt p (tag s)) refl where
      by_test : (x : Bool) → nat_lt p (tag s) ≡ x → tag s ≤ p
      by_test true e = let came = rw (e) at (step.flown (is_late p)) in absurd (omega (arith, came, none, locks.released))
      by_test false e = grind (arith, nat_tests, e)

-- the keeper stays in the phase
pub copies-posted : (S T : State) (M : ℕ → ℕ) (k : Barrier) (core : CoreId) (bad : Bool) (sent : Option Message) → CopiesGood S M → BarrierStep S T k (at_keeper (Arrived core bad)) sent
    → k.phase ≡ S.keeper.phase → ((l w p : ℕ) → to_all (is_carrying l w p) S.setting.shape.cores sent ≡ 0) → CopiesGood T M
copies-posted S T M k core bad sent g step phase none =
    copies-still S T M g step.setting step.nodes keeper signed
  where
    keeper : T.keeper.phase ≡ S.keeper.phase
    keeper = ap (λ (x : Barrier). x.phase) step.keeper ∙ phase

    signed : (l w : ℕ) → 1 ≤ carriers S l w → 1 ≤ carriers T l w
    signed l w some = rw (keeper, step.nodes, step.setting, step.banks) (omega (arith, some, step.flown (is_carrying l w S.keeper.phase), none l w S.keeper.phase))
