-- One bit of a signature, after another is set and after a join.
use Rattle.std.proofs.Common.{◌≡◌, ℕ, ◌-◌, ◌^◌, ◌<◌, max, Bool, true, false, ◌||◌, ◌==◌, refl, arith, ◌∙◌}
use Rattle.std.specs.Int.{bit_at}
use Rattle.std.specs.Prelude.{bit_or}
use Rattle.std.proofs.lemmas.Nat.Bits.{bit_at_or, bit_at-pow_same, bit_at-pow_other, bit_at-lt}
use Rattle.std.proofs.lemmas.Bool.{eqb-true, eqb-false}
use Rattle.std.proofs.lemmas.Bool.Decides.{nat_tests}
use Rattle.write_signature.specs.declared.signature.Signature.{Signature}
use Rattle.write_signature.specs.Signature.{has_bit, with_bit}

max_is_one : (x y : ℕ) → x < 2 → y < 2 → (max x y == 1) ≡ ((x == 1) || (y == 1))
max_is_one x y hx hy = grind (arith, nat_tests)

pub or_has : (a b i : ℕ) → (bit_at (bit_or a b) i == 1) ≡ ((bit_at a i == 1) || (bit_at b i == 1))
or_has a b i = rw (bit_at_or a b i) (max_is_one (bit_at a i) (bit_at b i) (bit_at-lt a i) (bit_at-lt b i))

pow_has : (k i : ℕ) → (bit_at (2 ^ k) i == 1) ≡ (i == k)
pow_has k i = by_test (i == k) refl where
  by_test : (t : Bool) → (i == k) ≡ t → (bit_at (2 ^ k) i == 1) ≡ t
  by_test true e = let same : i ≡ k = eqb-true i k e in rw (same, bit_at-pow_same k) refl
  by_test false e = rw (bit_at-pow_other k i (eqb-false i k e)) refl

-- setting a bit of a number sets that bit alone
pub set_has : (n k i : ℕ) → (bit_at (bit_or n (2 ^ k)) i == 1) ≡ ((bit_at n i == 1) || (i == k))
set_has n k i = or_has n (2 ^ k) i ∙ rw (pow_has k i) refl

pub has_bit-with_bit : (s : Signature) (k i : ℕ) → has_bit (with_bit k s) i ≡ (has_bit s i || (i == k))
has_bit-with_bit s k i =
    grind (arith, nat_tests, set_has s.low k i, set_has s.high (k - 128) (i - 128))
