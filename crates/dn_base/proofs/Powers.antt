-- A number with one digit that is 1 is a power of two.
use Rattle.std.proofs.Common.{◌≡◌, ℕ, zero, suc, ◌-◌, ◌/◌, ◌%◌, ◌^◌, ◌<◌, refl, subst, arith, bit_and}
use Rattle.std.specs.Int.RustNames.{count_ones}
use Rattle.std.proofs.Math.Nat.{pow-suc}
use Rattle.std.proofs.lemmas.Nat.{and_mask, zero_from_ones, ones_le_self}
use lib.Count.{count_trailing_zeros, under, ones_step}

-- its exponent is the number of zeros below that digit
pub power_of_two : (k n : ℕ) → n < 2 ^ k → count_ones n ≡ 1 → 2 ^ count_trailing_zeros k n ≡ n
unfolding count_trailing_zeros
power_of_two zero n below one = absurd (omega (arith, below, one, ones_le_self n))
power_of_two (suc k) n below one = by_digit (n % 2) refl (power_of_two k (n / 2)) where
  by_digit : (digit : ℕ) → n % 2 ≡ digit → (n / 2 < 2 ^ k → count_ones (n / 2) ≡ 1 → 2 ^ count_trailing_zeros k (n / 2) ≡ n / 2) → 2 ^ under digit (count_trailing_zeros k (n / 2)) ≡ n
  by_digit zero is rest =
      let half = rest (omega (arith, below, pow-suc 2 k)) (omega (arith, one, is, ones_step n)) in
      omega (arith, is, half, pow-suc 2 (count_trailing_zeros k (n / 2)))
  by_digit (suc digit) is rest =
      let half = zero_from_ones (n / 2) (omega (arith, one, is, ones_step n)) in
      omega (arith, is, half)

pub masked : (n d : ℕ) → d < 2 ^ 32 → count_ones d ≡ 1 → bit_and n (d - 1) ≡ n % d
masked n d below one =
    subst (λ (power : ℕ). bit_and n (power - 1) ≡ n % power) (power_of_two 32 d below one) (and_mask n (count_trailing_zeros 32 d))
