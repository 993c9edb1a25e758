-- Items of lists that weigh something, and sums of weights over the items that are there.
use Rattle.std.proofs.Common.{◌≡◌, ℕ, zero, suc, ◌≤◌, List, [], ◌∷◌, slice_get, sum_by, Some, refl, ap, subst, arith}
use Rattle.std.proofs.lemmas.Option.{slice_get_within, get_or_from_slice_get}
use Rattle.std.proofs.lemmas.List.Elements.{All-get_or}
use Rattle.std.specs.List.{All}
use Rattle.std.proofs.lemmas.List.Sums.{sum_by-cons}

-- an item of a list that weighs something
pub record IsWeighing {X : Type 0} (f : X → ℕ) (xs : List X) : Type 0 where
  pub place : ℕ
  pub item : X
  pub there : slice_get xs place ≡ Some item
  pub some : 1 ≤ f item

-- where the sum of weights isn't 0 an item weighs something
pub found-weighing : {X : Type 0} (f : X → ℕ) (xs : List X) → 1 ≤ sum_by f xs → IsWeighing f xs
found-weighing f [] some = absurd (omega (arith, some))
found-weighing f (x ∷ xs) some = by_weight (f x) refl (found-weighing f xs) where
  by_weight : (k : ℕ) → f x ≡ k → (1 ≤ sum_by f xs → IsWeighing f xs) → IsWeighing f (x ∷ xs)
  by_weight (suc k) e again = record { place = zero; item = x; there = refl; some = omega (arith, e) }
  by_weight zero e again =
      let rest = again (omega (arith, some, e, sum_by-cons f x xs)) in
      record { place = suc rest.place; item = rest.item; there = rest.there; some = rest.some }

-- an item that is there weighs no more than all
pub item-within : {X : Type 0} (f : X → ℕ) (xs : List X) (place : ℕ) (x : X) → slice_get xs place ≡ Some x → f x ≤ sum_by f xs
item-within f [] place x there = absurd (cc)
item-within f (y ∷ ys) zero x there = let same : y ≡ x = cc in omega (arith, sum_by-cons f y ys, ap f same)
item-within f (y ∷ ys) (suc place) x there = omega (arith, item-within f ys place x there, sum_by-cons f y ys)

-- where each item that is there weighs no more than by another weight, so do all
pub sums-within : {X : Type 0} (f g : X → ℕ) (xs : List X) → ((place : ℕ) (x : X) → slice_get xs place ≡ Some x → f x ≤ g x) → sum_by f xs ≤ sum_by g xs
sums-within f g [] each = omega arith
sums-within f g (x ∷ xs) each = omega (arith, each zero x refl, sums-within f g xs (λ place. each (suc place)), sum_by-cons f x xs, sum_by-cons g x xs)

-- what is true of all items is true of one
pub all-there : {X : Type 0} (P : X → Type 0) (xs : List X) (place : ℕ) (x : X) → All P xs → slice_get xs place ≡ Some x → P x
all-there P xs place x all there = subst P (get_or_from_slice_get xs place x x there) (All-get_or P xs place x (slice_get_within xs place x there) all)
