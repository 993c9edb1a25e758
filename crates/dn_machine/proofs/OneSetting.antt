-- A program, a shape and fuel have one setting of the machine.
use Rattle.std.proofs.Common.{◌≡◌, ◌↔◌, IsTrue, ℕ, suc, ◌<◌, Bool, true, false, List, [], ◌∷◌, length, get_or, refl, sym, ◌∙◌, arith}
use Rattle.std.specs.List.{All, AllZip}
use Rattle.std.proofs.lemmas.List.Elements.{All-head, All-tail}
use Rattle.dn_base.specs.declared.ids.Shape.{Shape}
use Rattle.region_table.specs.declared.interval.Interval.{Interval}
use Rattle.region_table.specs.declared.declared.Phase.{Phase}
use Rattle.region_table.specs.declared.plan.PhasePlan.{PhasePlan}
use Rattle.region_table.specs.Words.{has, IsCanonical}
use Rattle.region_table.specs.Program.{ProgramParts}
use Rattle.region_table.specs.Plan.{IsPlan}
use Rattle.region_table.proofs.WordLemmas.{same_words}
use Rattle.registration_protocol.specs.Node.{Setting}
use Rattle.dn_machine.specs.Plans.{IsInOneForm, AreInOneForm}
use Rattle.dn_machine.specs.Settings.{IsSettingOf}

-- ---- plans

-- two tests that hold at the same time are one
same_test : (a b : Bool) (X : Type 0) → IsTrue a ↔ X → IsTrue b ↔ X → a ≡ b
same_test true true X f g = refl
same_test true false X f g = sym (g.1 (f.0 refl))
same_test false true X f g = f.1 (g.0 refl)
same_test false false X f g = refl

-- two lists of canonical sets that have the same words, set by set, are equal
same-sets : (xs ys : List (List Interval)) → All IsCanonical xs → All IsCanonical ys → length xs ≡ length ys
    → ((k w : ℕ) → k < length xs → has (get_or xs k []) w ≡ has (get_or ys k []) w) → xs ≡ ys
same-sets [] [] cx cy long same = refl
same-sets [] (y ∷ ys) cx cy long same = absurd (omega (arith, long))
same-sets (x ∷ xs) [] cx cy long same = absurd (omega (arith, long))
same-sets (x ∷ xs) (y ∷ ys) cx cy long same =
    let first : x ≡ y = same_words 0 x y (All-head IsCanonical x xs cx) (All-head IsCanonical y ys cy) (λ w. same 0 w (omega arith)) in
    let rest : xs ≡ ys = same-sets xs ys (All-tail IsCanonical x xs cx) (All-tail IsCanonical y ys cy) (omega (arith, long)) (λ k w l. same (suc k) w (omega (arith, l))) in
    rw (first, rest) refl

plan-same : (a b : PhasePlan) → a.written ≡ b.written → a.guarded ≡ b.guarded → a ≡ b
plan-same a b w g =
    let e : record { written = a.written; guarded = a.guarded } ≡ b = rw (w, g) refl in e

-- a phase has one plan
same-plan : (P : ProgramParts) (p : Phase) (a b : PhasePlan) → IsInOneForm a → IsInOneForm b → IsPlan P p a → IsPlan P p b → a ≡ b
same-plan P p a b form other is also =
    let few : length a.guarded ≡ length P.locks = is.by_lock in
    plan-same a b
    (same_words 0 a.written b.written form.written other.written (λ w. same_test (has a.written w) (has b.written w) _ (is.written w) (also.written w)))
    (same-sets a.guarded b.guarded form.guarded other.guarded (is.by_lock ∙ sym also.by_lock)
    (λ k w l. let within : k < length P.locks = omega (arith, few, l) in is.guarded k w within ∙ sym (also.guarded k w within)))

-- a program has one list of plans
same-plans : (P : ProgramParts) (phases : List Phase) (xs ys : List PhasePlan) → AreInOneForm xs → AreInOneForm ys → AllZip (IsPlan P) phases xs → AllZip (IsPlan P) phases ys → xs ≡ ys
same-plans P [] [] [] form other is also = refl
same-plans P [] [] (y ∷ ys) form other is also = absurd also
same-plans P [] (x ∷ xs) ys form other is also = absurd is
same-plans P (p ∷ ps) [] ys form other is also = absurd is
same-plans P (p ∷ ps) (x ∷ xs) [] form other is also = absurd also
same-plans P (p ∷ ps) (x ∷ xs) (y ∷ ys) form other is also =
    let first : x ≡ y = same-plan P p x y (All-head IsInOneForm x xs form) (All-head IsInOneForm y ys other) is.0 also.0 in
    let rest : xs ≡ ys = same-plans P ps xs ys (All-tail IsInOneForm x xs form) (All-tail IsInOneForm y ys other) is.1 also.1 in
    rw (first, rest) refl

-- ---- the setting

setting-same : (C D : Setting) → C.program ≡ D.program → C.plans ≡ D.plans → C.shape ≡ D.shape → C.fuel ≡ D.fuel → C ≡ D
setting-same C D p l s f =
    let e : record { program = C.program; plans = C.plans; shape = C.shape; fuel = C.fuel } ≡ D = rw (p, l, s, f) refl in e

-- a program, a shape and fuel have one setting
pub same-setting : (P : ProgramParts) (machine : Shape) (most : ℕ) (C D : Setting) → IsSettingOf P machine most C → IsSettingOf P machine most D → C ≡ D
same-setting P machine most C D is also =
    setting-same C D
    (is.program ∙ sym also.program)
    (same-plans P P.phases C.plans D.plans is.one_form also.one_form is.plans also.plans)
    (is.shape ∙ sym also.shape)
    (is.fuel ∙ sym also.fuel)
