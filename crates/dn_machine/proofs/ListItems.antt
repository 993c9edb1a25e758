-- Items of lists after a change of one.
use Rattle.std.proofs.Common.{◌≡◌, ℕ, zero, suc, ◌<◌, ◌==◌, ◌&&◌, cond, nat_lt, List, [], ◌∷◌, ◌++◌, ◌+◌, map, take, length, slice_get, set, Some, refl, ap, arith}
use Rattle.std.proofs.lemmas.Bool.Decides.{nat_tests}
use Rattle.std.proofs.lemmas.List.FromFn.{map-range_with_len_more}
use Rattle.std.specs.List.{range_with_len}

pub get-set : {X : Type 0} (xs : List X) (i j : ℕ) (y : X) → slice_get (set xs i y) j ≡ cond ((i == j) && nat_lt j (length xs)) (Some y) (slice_get xs j)
get-set [] i j y = grind (arith, nat_tests)
get-set (x ∷ xs) zero zero y = grind (arith, nat_tests)
get-set (x ∷ xs) zero (suc j) y = grind (arith, nat_tests)
get-set (x ∷ xs) (suc i) zero y = grind (arith, nat_tests)
get-set (x ∷ xs) (suc i) (suc j) y = grind (arith, nat_tests, get-set xs i j y)

-- the item that was put is there
pub get-put : {X : Type 0} (xs : List X) (i : ℕ) (y : X) → i < length xs → slice_get (set xs i y) i ≡ Some y
get-put xs i y within = grind (arith, nat_tests, get-set xs i i y)

-- a place of a list has an item
pub item : {X : Type 0} (xs : List X) (i : ℕ) → i < length xs → (x : X) × (slice_get xs i ≡ Some x)
item [] i within = absurd (omega arith)
item (x ∷ xs) zero within = (x, refl)
item (x ∷ xs) (suc i) within = item xs i (omega arith)

-- a row that grows by one
take-last : {X : Type 0} (xs : List X) (k : ℕ) (x : X) → slice_get xs k ≡ Some x → take (suc k) xs ≡ take k xs ++ x ∷ []
take-last [] k x is = absurd (cc)
take-last (y ∷ xs) zero x is = let same : y ≡ x = cc in rw same refl
take-last {X = X} (y ∷ xs) (suc k) x is = ap (λ (l : List X). y ∷ l) (take-last xs k x is)

pub take-more : {X : Type 0} (xs : List X) (k : ℕ) (x : X) → slice_get xs k ≡ Some x → take (k + 1) xs ≡ take k xs ++ x ∷ []
take-more xs k x is =
    let on : k + 1 ≡ suc k = omega arith in
    rw on (take-last xs k x is)

pub made-first : {X : Type 0} (f : ℕ → X) (k : ℕ) → map f (range_with_len 0 (k + 1)) ≡ map f (range_with_len 0 k) ++ f k ∷ []
made-first f k = map-range_with_len_more f 0 k k (omega arith)
