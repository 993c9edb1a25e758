-- Choices below a number, and places of what a test takes.
use Rattle.std.proofs.Common.{◌≡◌, ℕ, zero, suc, ◌<◌, ◌==◌, Bool, true, false, cond, List, [], ◌∷◌, Option, Some, None, slice_get, refl, sym, ap, subst, ◌∙◌, arith}
use Rattle.std.specs.Prelude.{filter}
use Rattle.std.proofs.lemmas.Bool.{eqb-true, eqb-false}
use Rattle.host_workers.proofs.Weights.{filter-true, filter-false}

-- where there is something for each number below n, one function has it
pub chosen : {A : Type 0} (P : ℕ → A → Type 0) (d : A) (n : ℕ) → ((k : ℕ) → k < n → (a : A) × P k a) → (f : ℕ → A) × ((k : ℕ) → k < n → P k (f k))
chosen P d zero each = (λ k. d, λ k below. absurd (omega (arith, below)))
chosen {A} P d (suc n) each =
    let before = chosen P d n (λ k below. each k (omega (arith, below))) in
    let last = each n (omega arith) in
    (λ k. cond (k == n) last.0 (before.0 k), λ k below. by_test k below last before.0 before.1 (k == n) refl) where
      by_test : (k : ℕ) → k < suc n → (last : (a : A) × P n a) → (f : ℕ → A) → ((j : ℕ) → j < n → P j (f j)) → (t : Bool) → (k == n) ≡ t → P k (cond t last.0 (f k))
      by_test k below last f had true e = subst (λ j. P j last.0) (sym (eqb-true k n e)) last.1
      by_test k below last f had false e =
          let other = eqb-false k n e in
          had k (omega (arith, below, other))

module _ {X : Type 0} where
  abbrev is_none : Option X → Type 0
  is_none None = Unit {0}
  is_none (Some y) = ⊥

  pub none-some : (x : X) → None ≡ Some x → ⊥
  none-some x e = subst is_none e tt

  pub nothing-stands : (i : ℕ) (x : X) → slice_get {X = X} [] i ≡ Some x → ⊥
  nothing-stands zero x e = none-some x e
  nothing-stands (suc i) x e = none-some x e

  abbrev or_else : X → Option X → X
  or_else d None = d
  or_else d (Some x) = x

  pub same-some : (x y : X) → Some x ≡ Some y → x ≡ y
  same-some x y e = ap (or_else x) e

module _ {X : Type 0} (p : X → Bool) where
  -- what stands in a list and passes the test stands in what the test takes
  pub stands-taken : (xs : List X) (i : ℕ) (x : X) → slice_get xs i ≡ Some x → p x ≡ true → (j : ℕ) × (slice_get (filter p xs) j ≡ Some x)
  stands-taken [] i x at passes = absurd (nothing-stands i x at)
  stands-taken (y ∷ ys) zero x at passes =
      let is : y ≡ x = same-some y x at in
      (zero, ap (λ l. slice_get l zero) (filter-true p y ys (ap p is ∙ passes)) ∙ at)
  stands-taken (y ∷ ys) (suc i) x at passes = by (p y) refl (stands-taken ys i x at passes) where
    by : (t : Bool) → p y ≡ t → (j : ℕ) × (slice_get (filter p ys) j ≡ Some x) → (j : ℕ) × (slice_get (filter p (y ∷ ys)) j ≡ Some x)
    by true e rest = (suc rest.0, ap (λ l. slice_get l (suc rest.0)) (filter-true p y ys e) ∙ rest.1)
    by false e rest = (rest.0, ap (λ l. slice_get l rest.0) (filter-false p y ys e) ∙ rest.1)

  -- what stands in what the test takes stands in the list and passes the test
  pub taken-stands : (xs : List X) (j : ℕ) (x : X) → slice_get (filter p xs) j ≡ Some x → (i : ℕ) × (slice_get xs i ≡ Some x) × (p x ≡ true)
  taken-stands [] j x at = absurd (nothing-stands j x at)
  taken-stands (y ∷ ys) j x at = by (taken-stands ys) (p y) refl where
    first : ((j : ℕ) (x : X) → slice_get (filter p ys) j ≡ Some x → (i : ℕ) × (slice_get ys i ≡ Some x) × (p x ≡ true)) → p y ≡ true → (j : ℕ) → slice_get (y ∷ filter p ys) j ≡ Some x → (i : ℕ) × (slice_get (y ∷ ys) i ≡ Some x) × (p x ≡ true)
    first rest e zero at = (zero, at, ap p (sym (same-some y x at)) ∙ e)
    first rest e (suc j) at = let there = rest j x at in (suc there.0, there.1, there.2)

    by : ((j : ℕ) (x : X) → slice_get (filter p ys) j ≡ Some x → (i : ℕ) × (slice_get ys i ≡ Some x) × (p x ≡ true)) → (t : Bool) → p y ≡ t → (i : ℕ) × (slice_get (y ∷ ys) i ≡ Some x) × (p x ≡ true)
    by rest true e = first rest e j (subst (λ l. slice_get l j ≡ Some x) (filter-true p y ys e) at)
    by rest false e = let there = rest j x (subst (λ l. slice_get l j ≡ Some x) (filter-false p y ys e) at) in (suc there.0, there.1, there.2)
