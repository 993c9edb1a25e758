-- What is known of copies after a store: the other cores' copies of its word may be old then.
use Rattle.std.proofs.Common.{◌≡◌, ◌⊎◌, inl, inr, ℕ, ◌+◌, ◌≤◌, ◌<◌, ◌==◌, ◌&&◌, Bool, true, false, List, [], length, slice_get, slice_index_or, sum_by, Option, Some, None, IfSome, refl, sym, ap, subst, ◌∙◌, arith, ⊎_elim}
use Rattle.std.specs.Option.{option_map}
use Rattle.std.proofs.lemmas.Bool.{eqb-true, or_cases}
use Rattle.std.proofs.lemmas.List.Sums.{get_or-le-sum_by}
use Rattle.std.proofs.lemmas.Option.{slice_get_within, get_or_from_slice_get, slice_get_cases}
use Rattle.dn_base.specs.declared.ids.CoreId.{CoreId}
use Rattle.dn_base.specs.declared.ids.WordId.{WordId}
use Rattle.region_table.specs.declared.declared.TaskDecl.{TaskDecl}
use Rattle.region_table.specs.Words.{has}
use Rattle.region_table.specs.Tasks.{declared}
use Rattle.rv_core.specs.declared.task.TaskState.{TaskState}
use Rattle.rv_core.specs.declared.need.Need as need
use Rattle.rv_core.specs.Access.{is_held, under}
use Rattle.rv_core.proofs.Completions.{advanced-held}
use Rattle.flat_machine.proofs.Separation.{IsUnder, under-some}
use Rattle.write_signature.specs.declared.signature.Signature.{Signature}
use Rattle.write_signature.specs.Signature.{may_hold}
use Rattle.message_net.specs.declared.message.Outgoing.{Outgoing}
use Rattle.word_cache.specs.declared.row.Entry.{Entry}
use Rattle.word_cache.specs.declared.row.Entry.TheVariants.{Valid, Registered}
use Rattle.registration_protocol.specs.Node.{NodeParts, entry_of}
use Rattle.registration_protocol.specs.Fit.{HoldsOwn}
use Rattle.registration_protocol.specs.OwnEvents.{stored, noted_at}
use Rattle.registration_protocol.specs.Parts.{held_locks}
use Rattle.registration_protocol.proofs.EntryLemmas.{store-entry}
use Rattle.registration_protocol.proofs.SignLemmas.{noted-holds, noted-keeps}
use Rattle.registration_protocol.proofs.SignatureLemmas.{noted-get}
use Rattle.machine_rules.specs.State.{State, entry_at, lock_at}
use Rattle.machine_rules.specs.Flight.{bit}
use Rattle.machine_rules.specs.Coherent.{HasWriter, has_lock}
use Rattle.machine_rules.proofs.Bits.{signed_in}
use Rattle.machine_rules.proofs.Invariant.{Invariant, CopiesGood, MayHaveWritten, MayBeOld, carriers, carried_by}
use Rattle.machine_rules.proofs.Steps.{NodeStep}
use Rattle.machine_rules.proofs.Outcomes.{IsActing, stored_to}
use Rattle.machine_rules.proofs.Exclusive.{in-phase, acting-works, store-right, differ}
use Rattle.machine_rules.proofs.CopyFrames.{uses-kept}
use Rattle.machine_rules.proofs.CopyNodes.{IsSteady, HasNoNew, old-at, node-now, leaves-other, leaves-steady, signed-steady, copies-node, fresh-own, fresh-other, own-entry}
use Rattle.machine_rules.proofs.CopyGrants.{holder-other}

within-sum : (f : NodeParts → ℕ) (xs : List NodeParts) (i : ℕ) (n : NodeParts) → slice_get xs i ≡ Some n → f n ≤ sum_by f xs
within-sum f xs i n found =
    omega (arith, get_or-le-sum_by f xs i n (slice_get_within xs i n found), ap f (get_or_from_slice_get xs i n n found))

-- what a core's task holds is locks of the program, for each of which its node has a signature
own-signature : (S : State) (M : ℕ → ℕ) (core : ℕ) (n : NodeParts) (t : TaskState) (l : ℕ) → Invariant S M → slice_get S.nodes core ≡ Some n → n.task ≡ Some t → is_held t.held l ≡ true
    → (s : Signature) × (slice_get n.signatures l ≡ Some s)
own-signature S M core n t l inv found task held = by_case (slice_get_cases n.signatures l).1 where
  has_all : HoldsOwn (length S.setting.program.locks) t
  has_all = subst (λ (o : Option TaskState). IfSome o (HoldsOwn (length S.setting.program.locks))) task ((inv.machine.node core n found).fits).held

  by_case : ((x : Signature) × (l < length n.signatures) × (slice_get n.signatures l ≡ Some x) × (slice_index_or n.signatures l x ≡ x)) ⊎ ((length n.signatures ≤ l) × (slice_get n.signatures l ≡ None))
      → (s : Signature) × (slice_get n.signatures l ≡ Some s)
  by_case (inl (s, within, is, same)) = (s, is)
  by_case (inr (out, none)) = absurd (omega (arith, out, has_all l held, ((inv.machine.node core n found).fits).signatures))

-- the node of a store, and how it is left
store-steady : (S : State) (M : ℕ → ℕ) (core : CoreId) (n : NodeParts) (d : TaskDecl) (t : TaskState) (word : WordId) (whole : Bool) (e : Entry) (sent : Option Outgoing) → Invariant S M
    → IsActing S core n d t (need.TheVariants.Store word whole) → IsSteady S n (stored S.setting n d t word e) None sent
store-steady S M core n d t word whole e sent inv acts =
    record {
      phase = refl;
      unheld = λ l none. held l ∙ none;
      carries = λ l w. (let more = carries l w in omega (arith, more));
      came = λ l w. refl;
    }
  where
    m : NodeParts
    m = stored S.setting n d t word e

    phase : n.phase ≡ S.keeper.phase
    phase = in-phase S M core.0 n d t inv (acting-works S core n d t (need.TheVariants.Store word whole) acts)

    held : (l : ℕ) → is_held (held_locks m.task) l ≡ is_held (held_locks n.task) l
    held l = ap (λ (x : ℕ). is_held x l) (advanced-held S.setting.program d S.setting.fuel t (need.TheVariants.Store word whole) acts.wants tt) ∙ sym (ap (λ (o : Option TaskState). is_held (held_locks o) l) acts.task)

    carries : (l w : ℕ) → carried_by l w S.keeper.phase n ≤ carried_by l w S.keeper.phase m
    carries l w = rw (held l, noted-get d t.held word.0 n.phase l n.signatures) (by_held (is_held (held_locks n.task) l)) where
      keeps : (s : Signature) → (x : Bool) → may_hold s w S.keeper.phase ≡ x → bit (may_hold s w S.keeper.phase) ≤ bit (may_hold (noted_at d t.held word.0 n.phase l s) w S.keeper.phase)
      keeps s false is = rw (is) (omega arith)
      keeps s true is =
          let more : may_hold (noted_at d t.held word.0 n.phase l s) w S.keeper.phase ≡ true =
          subst (λ (p : ℕ). may_hold (noted_at d t.held word.0 n.phase l s) w p ≡ true) phase (noted-keeps d t.held word.0 n.phase l w s (subst (λ (p : ℕ). may_hold s w p ≡ true) (sym phase) is)) in
          rw (is, more) (omega arith)

      by_get : (o : Option Signature) → bit (signed_in w S.keeper.phase o) ≤ bit (signed_in w S.keeper.phase (option_map (noted_at d t.held word.0 n.phase l) o))
      by_get None = omega arith
      by_get (Some s) = keeps s (may_hold s w S.keeper.phase) refl

      by_held : (x : Bool) → bit (x && signed_in w S.keeper.phase (slice_get n.signatures l)) ≤ bit (x && signed_in w S.keeper.phase (option_map (noted_at d t.held word.0 n.phase l) (slice_get n.signatures l)))
      by_held true = by_get (slice_get n.signatures l)
      by_held false = omega arith

-- a copy of the word at another core may be old
written-there : (S T : State) (M : ℕ → ℕ) (core : CoreId) (n : NodeParts) (d : TaskDecl) (t : TaskState) (word : WordId) (whole : Bool) (e : Entry) (sent : Option Outgoing) → Invariant S M
    → IsActing S core n d t (need.TheVariants.Store word whole) → NodeStep S T core.0 n (stored S.setting n d t word e) None sent → (c : ℕ) → (core.0 == c) ≡ false
    → HasWriter T c word.0 ⊎ MayHaveWritten T c word.0
written-there S T M core n d t word whole e sent inv acts step c apart =
    ⊎_elim (λ plain. inl (by_plain plain)) (λ guarded. inr (by_guarded (under-some d.effects.guarded_writes 0 t.held word.0 guarded)))
    (or_cases (has d.effects.writes word.0) (under d.effects.guarded_writes 0 t.held word.0) (store-right S core n d t word whole acts).1)
  where
    m : NodeParts
    m = stored S.setting n d t word e

    phase : n.phase ≡ S.keeper.phase
    phase = in-phase S M core.0 n d t inv (acting-works S core n d t (need.TheVariants.Store word whole) acts)

    keeper : T.keeper.phase ≡ S.keeper.phase
    keeper = rw (step.keeper) refl

    declares : declared T.setting.program T.keeper.phase core.0 ≡ Some d
    declares = rw (step.setting, keeper) (subst (λ (p : ℕ). declared S.setting.program p core.0 ≡ Some d) phase acts.declares)

    by_plain : has d.effects.writes word.0 ≡ true → HasWriter T c word.0
    by_plain plain = record { core = core.0; other = differ core.0 c apart; decl = d; declares = declares; writes = plain }

    held_now : (l : ℕ) → is_held (held_locks m.task) l ≡ is_held t.held l
    held_now l = ap (λ (x : ℕ). is_held x l) (advanced-held S.setting.program d S.setting.fuel t (need.TheVariants.Store word whole) acts.wants tt)

    unheld : (l : ℕ) → is_held t.held l ≡ true → has_lock T c l ≡ false
    unheld l held = (leaves-other S T core.0 n m None sent step c apart).unheld l (by_test (has_lock S c l) refl) where
      here : bit (has_lock S core.0 l) ≡ 1
      here = rw (acts.found, acts.task, held) refl

      by_test : (x : Bool) → has_lock S c l ≡ x → has_lock S c l ≡ false
      by_test false is = is
      by_test true is = absurd (omega (arith, here, ap bit is, inv.locks.row l core.0, inv.locks.row l c, holder-other (lock_at S l) core.0 c apart))

    signed : (l : ℕ) → is_held t.held l ≡ true → has (slice_index_or d.effects.guarded_writes l []) word.0 ≡ true → 1 ≤ carriers T l word.0
    signed l held guards =
        let own = own-signature S M core.0 n t l inv acts.found acts.task held in
        let has_it : may_hold (noted_at d t.held word.0 n.phase l own.0) word.0 T.keeper.phase ≡ true =
        subst (λ (p : ℕ). may_hold (noted_at d t.held word.0 n.phase l own.0) word.0 p ≡ true) (phase ∙ sym keeper) (noted-holds d t.held word.0 n.phase l own.0 held guards) in
        let there : slice_get m.signatures l ≡ Some (noted_at d t.held word.0 n.phase l own.0) = noted-get d t.held word.0 n.phase l n.signatures ∙ ap (option_map (noted_at d t.held word.0 n.phase l)) own.1 in
        let one : carried_by l word.0 T.keeper.phase m ≡ 1 = rw (held_now l ∙ held, there, has_it) refl in
        omega (arith, one, within-sum (carried_by l word.0 T.keeper.phase) T.nodes core.0 m (node-now S T core.0 n m None sent step))

    by_guarded : IsUnder d.effects.guarded_writes 0 t.held word.0 → MayHaveWritten T c word.0
    by_guarded u =
        let held : is_held t.held u.place ≡ true = (let same : 0 + u.place ≡ u.place = omega arith in subst (λ (l : ℕ). is_held t.held l ≡ true) same u.holds) in
        record {
          core = core.0;
          other = differ core.0 c apart;
          decl = d;
          declares = declares;
          lock = u.place;
          writes = u.has;
          unheld = unheld u.place held;
          signed = signed u.place held u.has;
        }

pub copies-stored : (S T : State) (M : ℕ → ℕ) (core : CoreId) (n : NodeParts) (d : TaskDecl) (t : TaskState) (word : WordId) (whole : Bool) (value : ℕ) (pending : Bool) (sent : Option Outgoing) → Invariant S M
    → IsActing S core n d t (need.TheVariants.Store word whole) → NodeStep S T core.0 n (stored S.setting n d t word (Registered value pending)) None sent
    → CopiesGood T (stored_to (Some (word, value)) M)
copies-stored S T M core n d t word whole value pending sent inv acts step =
    copies-node S T M M' core.0 n m None sent inv.copies step
    (λ w x is. uses-kept S T core.0 w step.setting (leaves-steady S T core.0 n m None sent step steady).node (inv.copies.marked core.0 w x (own-entry S core.0 n w step.found ∙ old w x true is)))
    (λ w x marked is. by_own w x marked is (word.0 == w) refl)
    (λ c w x marked apart is. by_other c w x marked apart is (word.0 == w) refl)
  where
    M' : ℕ → ℕ
    M' = stored_to (Some (word, value)) M

    e : Entry
    e = Registered value pending

    m : NodeParts
    m = stored S.setting n d t word e

    steady : IsSteady S n m None sent
    steady = store-steady S M core n d t word whole e sent inv acts

    old : HasNoNew n m
    old = old-at n m word.0 (Some e) (store-entry S.setting n d t word e) refl

    by_own : (w x : ℕ) (marked : Bool) → entry_of m w ≡ Some (Valid x marked) → (y : Bool) → (word.0 == w) ≡ y → (x ≡ M' w) ⊎ MayBeOld T core.0 w marked
    by_own w x marked is true f = let wrong : Some e ≡ Some (Valid x marked) = sym (rw (f) at (store-entry S.setting n d t word e w)) ∙ is in absurd (cc)
    by_own w x marked is false f =
        let same : M' w ≡ M w = rw (f) refl in
        subst (λ (v : ℕ). (x ≡ v) ⊎ MayBeOld T core.0 w marked) (sym same)
        (fresh-own S T M core.0 n inv.copies step.found (leaves-steady S T core.0 n m None sent step steady) (signed-steady S T core.0 n m None sent step steady) w x marked (old w x marked is))

    by_other : (c w x : ℕ) (marked : Bool) → (core.0 == c) ≡ false → entry_at S c w ≡ Some (Valid x marked) → (y : Bool) → (word.0 == w) ≡ y → (x ≡ M' w) ⊎ MayBeOld T c w marked
    by_other c w x marked apart is true f =
        subst (λ (v : ℕ). (x ≡ M' v) ⊎ MayBeOld T c v marked) (eqb-true word.0 w f) (inr (inr (written-there S T M core n d t word whole e sent inv acts step c apart)))
    by_other c w x marked apart is false f =
        let same : M' w ≡ M w = rw (f) refl in
        subst (λ (v : ℕ). (x ≡ v) ⊎ MayBeOld T c w marked) (sym same)
        (fresh-other S T M core.0 n m None sent inv.copies step (signed-steady S T core.0 n m None sent step steady) c w x marked apart is)
