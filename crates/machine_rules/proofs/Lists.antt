-- Items of lists after a change of one.
use Rattle.std.proofs.Common.{◌≡◌, ℕ, zero, suc, ◌==◌, ◌&&◌, cond, nat_lt, List, [], ◌∷◌, length, slice_get, set, Some, arith}
use Rattle.std.proofs.lemmas.Bool.Decides.{nat_tests}
use Rattle.std.proofs.lemmas.Option.{slice_get_within}

pub get-set : {X : Type 0} (xs : List X) (i j : ℕ) (y : X) → slice_get (set xs i y) j ≡ cond ((i == j) && nat_lt j (length xs)) (Some y) (slice_get xs j)
get-set [] i j y = grind (arith, nat_tests)
get-set (x ∷ xs) zero zero y = grind (arith, nat_tests)
get-set (x ∷ xs) zero (suc j) y = grind (arith, nat_tests)
get-set (x ∷ xs) (suc i) zero y = grind (arith, nat_tests)
get-set (x ∷ xs) (suc i) (suc j) y = grind (arith, nat_tests, get-set xs i j y)

-- an item that is there becomes another, and the others stay
pub get-set-there : {X : Type 0} (xs : List X) (i j : ℕ) (x y : X) → slice_get xs i ≡ Some x → slice_get (set xs i y) j ≡ cond (i == j) (Some y) (slice_get xs j)
get-set-there xs i j x y there = grind (arith, nat_tests, get-set xs i j y, slice_get_within xs i x there)
