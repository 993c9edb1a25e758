-- Sums of weights over lists.
use Rattle.std.proofs.Common.{◌≡◌, ℕ, zero, suc, ◌≤◌, Bool, true, false, nat_lt, List, [], ◌∷◌, slice_get, Some, refl, ap, arith}
use Rattle.std.specs.Prelude.{sum_by}
use Rattle.std.proofs.lemmas.Bool.Decides.{nat_tests}
use Rattle.std.proofs.lemmas.List.Sums.{sum_by-cons}
use Rattle.std.proofs.lemmas.Option.{none-some, same_Some}

pub within : {X : Type 0} (w : X → ℕ) (xs : List X) (k : ℕ) (x : X) → slice_get xs k ≡ Some x → w x ≤ sum_by w xs
within w [] k x here = absurd (none-some x here)
within w (y ∷ ys) zero x here = omega (arith, sum_by-cons w y ys, ap w (same_Some y x here))
within w (y ∷ ys) (suc k) x here = omega (arith, sum_by-cons w y ys, within w ys k x here)

pub somewhere : {X : Type 0} (w : X → ℕ) (xs : List X) → 1 ≤ sum_by w xs → (k : ℕ) × (x : X) × (slice_get xs k ≡ Some x) × (1 ≤ w x)
somewhere w [] some = absurd (omega (arith, some))
somewhere {X} w (y ∷ ys) some = by_test (nat_lt 0 (w y)) refl (somewhere w ys) where
  by_test : (t : Bool) → nat_lt 0 (w y) ≡ t → (1 ≤ sum_by w ys → (k : ℕ) × (x : X) × (slice_get ys k ≡ Some x) × (1 ≤ w x)) → (k : ℕ) × (x : X) × (slice_get (y ∷ ys) k ≡ Some x) × (1 ≤ w x)
  by_test true e rest = (0, y, refl, grind (arith, nat_tests, e))
  by_test false e rest =
      let none : w y ≡ 0 = grind (arith, nat_tests, e) in
      let later = rest (omega (arith, some, none, sum_by-cons w y ys)) in
      (suc later.0, later.1, later.2, later.3)

pub nowhere : {X : Type 0} (w : X → ℕ) (xs : List X) → ((k : ℕ) (x : X) → slice_get xs k ≡ Some x → w x ≡ 0) → sum_by w xs ≡ 0
nowhere w [] all = refl
nowhere w (y ∷ ys) all = omega (arith, sum_by-cons w y ys, all 0 y refl, nowhere w ys (λ k x here. all (suc k) x here))

-- a list with an element at a place has a first one
pub has-first : {X : Type 0} (xs : List X) (k : ℕ) (x : X) → slice_get xs k ≡ Some x → (y : X) × (slice_get xs 0 ≡ Some y)
has-first [] k x here = absurd (none-some x here)
has-first (y ∷ ys) k x here = (y, refl)
