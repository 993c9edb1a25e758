-- Sums over the numbers below a bound, against each other and against sums over lists.
use Rattle.std.proofs.Common.{◌≡◌, ℕ, zero, suc, ◌+◌, ◌<◌, ◌≤◌, ◌==◌, Bool, true, false, cond, List, [], ◌∷◌, length, slice_get, sum_by, Some, refl, sym, ap, arith}
use Rattle.std.proofs.lemmas.Bool.{eqb-true}
use Rattle.std.proofs.lemmas.Bool.Decides.{nat_tests}
use Rattle.std.proofs.lemmas.List.Sums.{sum_by-cons}
use Rattle.machine_rules.proofs.Spending.{total}

pub total-none : (f : ℕ → ℕ) (n : ℕ) → ((k : ℕ) → f k ≡ 0) → total f n ≡ 0
total-none f zero none = refl
total-none f (suc n) none = omega (arith, total-none f n none, none n)

pub total-le : (f g : ℕ → ℕ) (n : ℕ) → ((k : ℕ) → f k ≤ g k) → total f n ≤ total g n
total-le f g zero each = omega arith
total-le f g (suc n) each = omega (arith, total-le f g n each, each n)

-- where one number of the sum grows, the sum grows as much
pub total-raised : (f g : ℕ → ℕ) (n j x : ℕ) → ((k : ℕ) → f k ≤ g k) → j < n → f j + x ≤ g j → total f n + x ≤ total g n
total-raised f g zero j x each within one = absurd (omega (arith, within))
total-raised f g (suc n) j x each within one = by_test (j == n) refl (total-raised f g n j x each) where
  by_test : (b : Bool) → (j == n) ≡ b → (j < n → f j + x ≤ g j → total f n + x ≤ total g n) → total f (suc n) + x ≤ total g (suc n)
  by_test true e rest =
      let same : j ≡ n = eqb-true j n e in
      omega (arith, total-le f g n each, one, ap f same, ap g same)
  by_test false e rest =
      let below : j < n = grind (arith, nat_tests, within, e) in
      omega (arith, rest below one, each n)

-- a number is within the sum
pub total-part : (f : ℕ → ℕ) (n j : ℕ) → j < n → f j ≤ total f n
total-part f n j within = omega (arith, total-raised (λ (k : ℕ). 0) f n j (f j) (λ k. omega arith) within (omega arith))

-- the first number and the others
pub total-first : (f : ℕ → ℕ) (n : ℕ) → total f (suc n) ≡ f 0 + total (λ (k : ℕ). f (suc k)) n
total-first f zero = omega arith
total-first f (suc n) = omega (arith, total-first f n)

pub total-both : (f g : ℕ → ℕ) (n : ℕ) → total (λ (k : ℕ). f k + g k) n ≡ total f n + total g n
total-both f g zero = refl
total-both f g (suc n) = omega (arith, total-both f g n)

-- the order of two sums doesn't matter
pub total-swap : (f : ℕ → ℕ → ℕ) (n m : ℕ) → total (λ (a : ℕ). total (f a) m) n ≡ total (λ (b : ℕ). total (λ (a : ℕ). f a b) n) m
total-swap f zero m = sym (total-none (λ (b : ℕ). 0) m (λ k. refl))
total-swap f (suc n) m = omega (arith, total-swap f n m, total-both (λ (b : ℕ). total (λ (a : ℕ). f a b) n) (f n) m)

-- ---- sums over lists

pub sum-total : {X : Type 0} (f : X → ℕ) (g : ℕ → ℕ) (xs : List X) → ((k : ℕ) (x : X) → slice_get xs k ≡ Some x → f x ≤ g k) → sum_by f xs ≤ total g (length xs)
sum-total f g [] each = omega arith
sum-total f g (x ∷ xs) each =
    omega (arith, sum_by-cons f x xs, each 0 x refl, sum-total f (λ (k : ℕ). g (suc k)) xs (λ k y there. each (suc k) y there), total-first g (length xs))

-- the number at one place alone
abbrev pub only_at : ℕ → (ℕ → ℕ) → ℕ → ℕ
only_at j f k = cond (j == k) (f k) 0

only-low : (f : ℕ → ℕ) (j n : ℕ) → n ≤ j → total (only_at j f) n ≡ 0
only-low f j zero low = refl
only-low f j (suc n) low =
    let apart : (j == n) ≡ false = grind (arith, nat_tests, low) in
    let here : only_at j f n ≡ 0 = rw (apart) refl in
    omega (arith, only-low f j n (omega (arith, low)), here)

only-one : (f : ℕ → ℕ) (j n : ℕ) → total (only_at j f) n ≤ f j
only-one f j zero = omega arith
only-one f j (suc n) = by_test (j == n) refl (only-one f j n) where
  by_test : (b : Bool) → (j == n) ≡ b → total (only_at j f) n ≤ f j → total (only_at j f) n + cond b (f n) 0 ≤ f j
  by_test true e rest =
      let same : j ≡ n = eqb-true j n e in
      omega (arith, only-low f j n (omega (arith, same)), ap f same)
  by_test false e rest = omega (arith, rest)

-- where each element stands at a place, the numbers at these places are those of the elements
pub total-places : {X : Type 0} (place : X → ℕ) (f : ℕ → ℕ) (xs : List X) (n : ℕ)
    → total (λ (k : ℕ). sum_by (λ (x : X). only_at (place x) f k) xs) n ≤ sum_by (λ (x : X). f (place x)) xs
total-places place f [] n = omega (arith, total-none (λ (k : ℕ). 0) n (λ k. refl))
total-places {X} place f (x ∷ xs) n =
    let both : ℕ → ℕ = λ k. only_at (place x) f k + sum_by (λ (y : X). only_at (place y) f k) xs in
    let split = total-le (λ (k : ℕ). sum_by (λ (y : X). only_at (place y) f k) (x ∷ xs)) both n (λ k. omega (arith, sum_by-cons (λ (y : X). only_at (place y) f k) x xs)) in
    let apart = total-both (only_at (place x) f) (λ (k : ℕ). sum_by (λ (y : X). only_at (place y) f k) xs) n in
    omega (arith, split, apart, only-one f (place x) n, total-places place f xs n, sum_by-cons (λ (y : X). f (place y)) x xs)
