-- A text has one program or one fault, and a program one least conflict or none.
use Rattle.std.proofs.Common.{◌≡◌, inl, inr, ℕ, zero, suc, List, [], ◌∷◌, get_or, Ok, Err, refl, sym, ap, subst, ◌∙◌, arith}
use Rattle.std.specs.List.{All}
use Rattle.std.proofs.lemmas.List.Elements.{All-head, All-tail}
use Rattle.dn_base.specs.declared.ids.PhaseId.{PhaseId}
use Rattle.dn_base.specs.declared.ids.CoreId.{CoreId}
use Rattle.dn_base.specs.declared.ids.LockId.{LockId}
use Rattle.dn_base.specs.declared.ids.WordId.{WordId}
use Rattle.region_table.specs.declared.declared.Phase.{Phase}
use Rattle.region_table.specs.Program.{ProgramParts}
use Rattle.rv_assembler.specs.Source.{source}
use Rattle.rv_assembler.specs.declared.fault.SourceFault.{SourceFault}
use Rattle.effect_checker.specs.Checked.{IsCheckedPhase, IsChecked}
use Rattle.effect_checker.specs.Faults.{numbers_of, fault_phase, phase_at, IsFault, IsFaultAmong, IsLeastFault, IsUpTo}
use Rattle.effect_checker.specs.declared.fault.CheckFault.{CheckFault}
use Rattle.effect_checker.specs.declared.fault.CheckFault.TheVariants.{PlainConflict, GuardedPlain, TwoLocks}
use Rattle.run_report.specs.declared.refusal.Refusal as refusal
use Rattle.run_report.specs.Refusal.{refusal_of}
use Rattle.run_report.specs.Texts.{HasProgram, HasChecked, IsNoProgram, IsInConflict, IsUnfit}

-- ---- the least conflict

-- two lists that each come up to the other are equal
up_to-both : (xs ys : List ℕ) → IsUpTo xs ys → IsUpTo ys xs → xs ≡ ys
up_to-both [] [] a b = refl
up_to-both [] (y ∷ ys) a b = absurd b
up_to-both (x ∷ xs) [] a b = absurd a
up_to-both (x ∷ xs) (y ∷ ys) (inl l) (inl m) = absurd (omega (arith, l, m))
up_to-both (x ∷ xs) (y ∷ ys) (inl l) (inr (e, b)) = absurd (omega (arith, l, e))
up_to-both (x ∷ xs) (y ∷ ys) (inr (e, a)) (inl m) = absurd (omega (arith, e, m))
up_to-both (x ∷ xs) (y ∷ ys) (inr (e, a)) (inr (f, b)) = rw (e, up_to-both xs ys a b) refl

phase-same : (a b : PhaseId) → a.0 ≡ b.0 → a ≡ b
phase-same a b h = let e : record { 0 = a.0 } ≡ b = rw h refl in e

core-same : (a b : CoreId) → a.0 ≡ b.0 → a ≡ b
core-same a b h = let e : record { 0 = a.0 } ≡ b = rw h refl in e

lock-same : (a b : LockId) → a.0 ≡ b.0 → a ≡ b
lock-same a b h = let e : record { 0 = a.0 } ≡ b = rw h refl in e

word-same : (a b : WordId) → a.0 ≡ b.0 → a ≡ b
word-same a b h = let e : record { 0 = a.0 } ≡ b = rw h refl in e

-- two numbers that begin the same list are one, and so are the rests
first-same : (x y : ℕ) (xs ys : List ℕ) → (x ∷ xs) ≡ (y ∷ ys) → x ≡ y
first-same x y xs ys e = cc

rest-same : (x y : ℕ) (xs ys : List ℕ) → (x ∷ xs) ≡ (y ∷ ys) → xs ≡ ys
rest-same x y xs ys e = cc

-- lists of five numbers
record AreFive (p k a b w q l c d v : ℕ) : Type 0 where
  phase : p ≡ q
  kind : k ≡ l
  first : a ≡ c
  second : b ≡ d
  word : w ≡ v

are-five : (p k a b w q l c d v : ℕ) → (p ∷ k ∷ a ∷ b ∷ w ∷ []) ≡ (q ∷ l ∷ c ∷ d ∷ v ∷ []) → AreFive p k a b w q l c d v
are-five p k a b w q l c d v e =
    let e1 = rest-same p q _ _ e in
    let e2 = rest-same k l _ _ e1 in
    let e3 = rest-same a c _ _ e2 in
    let e4 = rest-same b d _ _ e3 in
    record { phase = first-same p q _ _ e; kind = first-same k l _ _ e1; first = first-same a c _ _ e2; second = first-same b d _ _ e3; word = first-same w v _ _ e4 }

-- a fault is what its numbers say
same-fault : (f g : CheckFault) → numbers_of f ≡ numbers_of g → f ≡ g
same-fault (PlainConflict p a b w) (PlainConflict q c d v) e =
    let is = are-five _ _ _ _ _ _ _ _ _ _ e in
    rw (phase-same p q is.phase, core-same a c is.first, core-same b d is.second, word-same w v is.word) refl
same-fault (PlainConflict p a b w) (GuardedPlain q c d v) e = let is = are-five _ _ _ _ _ _ _ _ _ _ e in absurd (omega (arith, is.kind))
same-fault (PlainConflict p a b w) (TwoLocks q c d v) e = let is = are-five _ _ _ _ _ _ _ _ _ _ e in absurd (omega (arith, is.kind))
same-fault (GuardedPlain p a b w) (PlainConflict q c d v) e = let is = are-five _ _ _ _ _ _ _ _ _ _ e in absurd (omega (arith, is.kind))
same-fault (GuardedPlain p a b w) (GuardedPlain q c d v) e =
    let is = are-five _ _ _ _ _ _ _ _ _ _ e in
    rw (phase-same p q is.phase, lock-same a c is.first, core-same b d is.second, word-same w v is.word) refl
same-fault (GuardedPlain p a b w) (TwoLocks q c d v) e = let is = are-five _ _ _ _ _ _ _ _ _ _ e in absurd (omega (arith, is.kind))
same-fault (TwoLocks p a b w) (PlainConflict q c d v) e = let is = are-five _ _ _ _ _ _ _ _ _ _ e in absurd (omega (arith, is.kind))
same-fault (TwoLocks p a b w) (GuardedPlain q c d v) e = let is = are-five _ _ _ _ _ _ _ _ _ _ e in absurd (omega (arith, is.kind))
same-fault (TwoLocks p a b w) (TwoLocks q c d v) e =
    let is = are-five _ _ _ _ _ _ _ _ _ _ e in
    rw (phase-same p q is.phase, lock-same a c is.first, lock-same b d is.second, word-same w v is.word) refl

-- a program has one least conflict
least_fault-one : (P : ProgramParts) (f g : CheckFault) → IsLeastFault P f → IsLeastFault P g → f ≡ g
least_fault-one P f g is also = same-fault f g (up_to-both (numbers_of f) (numbers_of g) (is.least g also.fault) (also.least f is.fault))

-- ---- a checked program has none

no-tasks : IsCheckedPhase (record { tasks = [] })
no-tasks = record { plain = λ a b w h k. cc; guarded = λ lock core w h k. cc; one_lock = λ a b w h k. cc }

at-place : (phases : List Phase) (n : ℕ) (d : Phase) → All IsCheckedPhase phases → IsCheckedPhase d → IsCheckedPhase (get_or phases n d)
at-place [] n d all h = h
at-place (p ∷ ps) zero d all h = All-head IsCheckedPhase p ps all
at-place (p ∷ ps) (suc n) d all h = at-place ps n d (All-tail IsCheckedPhase p ps all) h

no-fault_among : (p : Phase) (f : CheckFault) → IsCheckedPhase p → IsFaultAmong p.tasks f → ⊥
no-fault_among p (PlainConflict phase a b w) is h = h.0 (is.plain a.0 b.0 w.0 h.1 h.2)
no-fault_among p (GuardedPlain phase lock core w) is h = is.guarded lock.0 core.0 w.0 h.0 h.1
no-fault_among p (TwoLocks phase a b w) is h = let same = is.one_lock a.0 b.0 w.0 h.1 h.2 in omega (arith, same, h.0)

no-fault : (P : ProgramParts) (f : CheckFault) → IsChecked P → IsFault P f → ⊥
no-fault P f is h = no-fault_among (phase_at P (fault_phase f)) f (at-place P.phases (fault_phase f) (record { tasks = [] }) is no-tasks) h

-- ---- a text and its program

pub one-program : (text : List ℕ) (P Q : ProgramParts) → source text ≡ Ok P → source text ≡ Ok Q → P ≡ Q
one-program text P Q e f = cc

pub program-or_fault : (text : List ℕ) (P : ProgramParts) (fault : SourceFault) → source text ≡ Ok P → source text ≡ Err fault → ⊥
program-or_fault text P fault e f = cc

pub no_program-one : (text l m : List ℕ) → IsNoProgram text l → IsNoProgram text m → l ≡ m
no_program-one text l m is also =
    let same : is.fault ≡ also.fault = one-fault is.fault also.fault is.is also.is in
    is.says ∙ ap (λ (f : SourceFault). refusal_of (refusal.TheVariants.Source f)) same ∙ sym also.says
  where
    one-fault : (f g : SourceFault) → source text ≡ Err f → source text ≡ Err g → f ≡ g
    one-fault f g e h = cc

conflict-one : (P : ProgramParts) (l m : List ℕ) → IsInConflict P l → IsInConflict P m → l ≡ m
conflict-one P l m is also =
    is.says
    ∙ ap (λ (f : CheckFault). refusal_of (refusal.TheVariants.Check f)) (least_fault-one P is.fault also.fault is.least also.least)
    ∙ sym also.says

-- a text is refused by one line
pub unfit-one : (text l m : List ℕ) → IsUnfit text l → IsUnfit text m → l ≡ m
unfit-one text l m (inl is) (inl also) = no_program-one text l m is also
unfit-one text l m (inl is) (inr also) = absurd (program-or_fault text also.program is.fault also.is is.is)
unfit-one text l m (inr is) (inl also) = absurd (program-or_fault text is.program also.fault is.is also.is)
unfit-one text l m (inr is) (inr also) =
    let same : also.program ≡ is.program = one-program text also.program is.program also.is is.is in
    conflict-one is.program l m is.holds (subst (λ (P : ProgramParts). IsInConflict P m) same also.holds)

-- what holds of a text's program in one way only
pub program-one : {X : Type 0} (text : List ℕ) (Holds : ProgramParts → X → Type 0) (out other : X) → ((P : ProgramParts) → Holds P out → Holds P other → out ≡ other)
    → HasProgram text (λ P. Holds P out) → HasProgram text (λ P. Holds P other) → out ≡ other
program-one text Holds out other one is also =
    one is.program is.holds
    (subst (λ (P : ProgramParts). Holds P other) (one-program text also.program is.program also.is is.is) also.holds)

pub checked-one : {X : Type 0} (text : List ℕ) (Holds : ProgramParts → X → Type 0) (out other : X) → ((P : ProgramParts) → Holds P out → Holds P other → out ≡ other)
    → HasChecked text (λ P. Holds P out) → HasChecked text (λ P. Holds P other) → out ≡ other
checked-one text Holds out other one is also =
    one is.program is.holds
    (subst (λ (P : ProgramParts). Holds P other) (one-program text also.program is.program also.is is.is) also.holds)

-- a text with a checked program isn't refused
pub checked-fit : (text line : List ℕ) (Holds : ProgramParts → Type 0) → HasChecked text Holds → IsUnfit text line → ⊥
checked-fit text line Holds is (inl was) = program-or_fault text is.program was.fault is.is was.is
checked-fit text line Holds is (inr was) =
    let same : is.program ≡ was.program = one-program text is.program was.program is.is was.is in
    no-fault was.program was.holds.fault (subst IsChecked same is.checked) was.holds.least.fault
