-- What several sections did together, case by case.
use Rattle.std.proofs.Common.{◌≡◌, ◌≢◌, ℕ, ◌==◌, Bool, true, false, List, [], ◌∷◌, map, sum_by, refl, sym, ap, ◌∙◌, subst, arith}
use Rattle.std.specs.List.{All}
use Rattle.std.proofs.lemmas.Bool.{eqb-true, eqb-false}
use Rattle.std.proofs.lemmas.List.Elements.{All-nil, All-cons, All-head, All-tail, All-weaker}
use Rattle.std.proofs.lemmas.List.Sums.{sum_by-cons}
use Rattle.common_outcomes.specs.declared.value.Effect.{Effect}
use Rattle.common_outcomes.specs.declared.value.Effect.TheVariants.{Kept, Added, Set, Other}
use Rattle.common_outcomes.specs.Values.{both_set, joined_effect}
use Rattle.common_outcomes.specs.Alone.{cell_at}
use Rattle.common_outcomes.specs.Phases.{Summary, effects_at}
use Rattle.common_outcomes.specs.Laws.{AddsOrKeeps, SetsOrKeeps, KeepsAll, addend, IsJoint}

-- ---- two of the cases at once

kept-adds : (e : Effect) → e ≡ Kept → AddsOrKeeps e
kept-adds e is = subst AddsOrKeeps (sym is) tt

kept-sets : (n : ℕ) (e : Effect) → e ≡ Kept → SetsOrKeeps n e
kept-sets n e is = subst (SetsOrKeeps n) (sym is) tt

adds-sets : (n : ℕ) (e : Effect) → AddsOrKeeps e → SetsOrKeeps n e → e ≡ Kept
adds-sets n Kept a s = refl
adds-sets n (Added m) a s = absurd s
adds-sets n (Set m) a s = absurd a
adds-sets n Other a s = absurd a

sets-sets : (n m : ℕ) (e : Effect) → n ≢ m → SetsOrKeeps n e → SetsOrKeeps m e → e ≡ Kept
sets-sets n m Kept apart s t = refl
sets-sets n m (Added k) apart s t = absurd s
sets-sets n m (Set k) apart s t = absurd (apart (sym s ∙ t))
sets-sets n m Other apart s t = absurd s

both : (Q R S : Effect → Type 0) → ((e : Effect) → Q e → R e → S e) → (es : List Effect) → All Q es → All R es → All S es
both Q R S f es q r = λ i d within. f _ (q i d within) (r i d within)

sum-kept : (es : List Effect) → KeepsAll es → sum_by addend es ≡ 0
sum-kept [] h = refl
sum-kept (e ∷ es) h =
    let here : addend e ≡ 0 = ap addend (All-head (λ (x : Effect). x ≡ Kept) e es h) in
    let rest = sum-kept es (All-tail (λ (x : Effect). x ≡ Kept) e es h) in
    let split = sum_by-cons addend e es in
    omega (arith, here, rest, split)

-- ---- one more section

kept-more : (es : List Effect) (x : Effect) → IsJoint es x → IsJoint (Kept ∷ es) x
kept-more es Kept h = All-cons (λ (e : Effect). e ≡ Kept) Kept es refl h
kept-more es (Added n) h = (
  λ all. h.0 (All-tail (λ (e : Effect). e ≡ Kept) Kept es all),
  All-cons AddsOrKeeps Kept es tt h.1,
  h.2,
)
kept-more es (Set n) h = (λ all. h.0 (All-tail (λ (e : Effect). e ≡ Kept) Kept es all), All-cons (SetsOrKeeps n) Kept es tt h.1)
kept-more es Other h = (λ all. h.0 (All-tail AddsOrKeeps Kept es all), λ n all. h.1 n (All-tail (SetsOrKeeps n) Kept es all))

added-kept : (a : ℕ) → Added a ≡ Kept → ⊥
added-kept a e = cc

set-kept : (a : ℕ) → Set a ≡ Kept → ⊥
set-kept a e = cc

added-more : (a : ℕ) (es : List Effect) (x : Effect) → IsJoint es x → IsJoint (Added a ∷ es) (joined_effect (Added a) x)
added-more a es Kept h =
    let none = sum-kept es h in
    let split = sum_by-cons addend (Added a) es in (
      λ all. added-kept a (All-head (λ (e : Effect). e ≡ Kept) (Added a) es all),
      All-cons AddsOrKeeps (Added a) es tt (All-weaker (λ (e : Effect). e ≡ Kept) AddsOrKeeps kept-adds es h),
      omega (arith, none, split),
    )
added-more a es (Added n) h =
    let total = h.2 in
    let split = sum_by-cons addend (Added a) es in (
      λ all. added-kept a (All-head (λ (e : Effect). e ≡ Kept) (Added a) es all),
      All-cons AddsOrKeeps (Added a) es tt h.1,
      omega (arith, total, split),
    )
added-more a es (Set n) h = (
  λ all. h.0 (both AddsOrKeeps (SetsOrKeeps n) (λ (e : Effect). e ≡ Kept) (adds-sets n) es (All-tail AddsOrKeeps (Added a) es all) h.1),
  λ m all. All-head (SetsOrKeeps m) (Added a) es all,
)
added-more a es Other h = (λ all. h.0 (All-tail AddsOrKeeps (Added a) es all), λ m all. All-head (SetsOrKeeps m) (Added a) es all)

set-more : (a : ℕ) (es : List Effect) (x : Effect) → IsJoint es x → IsJoint (Set a ∷ es) (joined_effect (Set a) x)
set-more a es Kept h = (
  λ all. set-kept a (All-head (λ (e : Effect). e ≡ Kept) (Set a) es all),
  All-cons (SetsOrKeeps a) (Set a) es refl (All-weaker (λ (e : Effect). e ≡ Kept) (SetsOrKeeps a) (kept-sets a) es h),
)
set-more a es (Added n) h = (
  λ all. All-head AddsOrKeeps (Set a) es all,
  λ m all. h.0 (both AddsOrKeeps (SetsOrKeeps m) (λ (e : Effect). e ≡ Kept) (adds-sets m) es h.1 (All-tail (SetsOrKeeps m) (Set a) es all)),
)
set-more a es (Set n) h = by_test (a == n) refl
  where
    by_test : (b : Bool) → (a == n) ≡ b → IsJoint (Set a ∷ es) (both_set b a)
    by_test true e = (
      λ all. set-kept a (All-head (λ (x : Effect). x ≡ Kept) (Set a) es all),
      All-cons (SetsOrKeeps a) (Set a) es refl (subst (λ (m : ℕ). All (SetsOrKeeps m) es) (sym (eqb-true a n e)) h.1),
    )
    by_test false e = (
      λ all. All-head AddsOrKeeps (Set a) es all,
      λ m all. h.0 (both (SetsOrKeeps n) (SetsOrKeeps m) (λ (x : Effect). x ≡ Kept)
          (λ x. sets-sets n m x (λ same. eqb-false a n e (All-head (SetsOrKeeps m) (Set a) es all ∙ sym same))) es h.1 (All-tail (SetsOrKeeps m) (Set a) es all)),
    )
set-more a es Other h = (λ all. All-head AddsOrKeeps (Set a) es all, λ m all. h.1 m (All-tail (SetsOrKeeps m) (Set a) es all))

other-more : (es : List Effect) → IsJoint (Other ∷ es) Other
other-more es = (λ all. All-head AddsOrKeeps Other es all, λ m all. All-head (SetsOrKeeps m) Other es all)

joint-more : (e : Effect) (es : List Effect) (x : Effect) → IsJoint es x → IsJoint (e ∷ es) (joined_effect e x)
joint-more Kept es x h = kept-more es x h
joint-more (Added a) es x h = added-more a es x h
joint-more (Set a) es x h = set-more a es x h
joint-more Other es Kept h = other-more es
joint-more Other es (Added n) h = other-more es
joint-more Other es (Set n) h = other-more es
joint-more Other es Other h = other-more es

pub effects-joint : (rs : List Summary) (w : ℕ) → IsJoint (map (λ (r : Summary). (cell_at r.alone.cells w).effect) rs) (effects_at rs w)
effects-joint [] w = All-nil (λ (e : Effect). e ≡ Kept)
effects-joint (r ∷ rs) w =
    joint-more (cell_at r.alone.cells w).effect (map (λ (q : Summary). (cell_at q.alone.cells w).effect) rs) (effects_at rs w) (effects-joint rs w)
