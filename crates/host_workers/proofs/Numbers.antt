-- Small facts on numbers.
use Rattle.std.proofs.Common.{◌≡◌, ℕ, ◌<◌, ◌≤◌, ◌%◌, ◌==◌, true, nat_lt, arith}
use Rattle.std.proofs.lemmas.Bool.Decides.{nat_tests}

pub is-below : (m n : ℕ) → m < n → nat_lt m n ≡ true
is-below m n h = grind (arith, nat_tests, h)

pub below-bound : (m n : ℕ) → nat_lt m n ≡ true → m < n
below-bound m n e = grind (arith, nat_tests, e)

pub remainder : (m n : ℕ) → 1 ≤ n → m % n < n
remainder m n some = grind (arith, some)

pub turned : (m n : ℕ) → (m == n) ≡ (n == m)
turned m n = grind (arith, nat_tests)
