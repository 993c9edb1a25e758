-- Which locks are held after one more is acquired or released.
use Rattle.std.proofs.Common.{◌≡◌, ℕ, zero, suc, ◌*◌, ◌^◌, ◌<◌, ◌==◌, ◌&&◌, ◌||◌, not, true, false, nat_lt, refl, sym, ◌∙◌, arith, ⊎_elim, bit_or, bit_xor}
use Rattle.std.specs.Int.{bit_at}
use Rattle.std.proofs.lemmas.Bool.{cases_eq}
use Rattle.std.proofs.lemmas.Bool.Decides.{nat_tests}
use Rattle.std.proofs.lemmas.Nat.{pow_pos}
use Rattle.std.proofs.lemmas.Nat.Bits.{and_pow, bit_at-lt, bit_at_or, bit_at_xor, bit_at-pow_same, bit_at-pow_other, bit_at-zero}
use Rattle.rv_core.specs.Access.{is_held}

-- a lock is held where its bit is set
pub holds-bit : (held lock : ℕ) → is_held held lock ≡ (bit_at held lock == 1)
holds-bit held lock = rw (and_pow held lock) (by_bit (bit_at held lock) (bit_at-lt held lock))
  where
    by_bit : (b : ℕ) → b < 2 → nat_lt 0 (b * 2 ^ lock) ≡ (b == 1)
    by_bit zero l = grind (arith, nat_tests)
    by_bit (suc zero) l = let some : 0 < 2 ^ lock = pow_pos lock in grind (arith, nat_tests)
    by_bit (suc (suc b)) l = absurd (omega arith)

-- where no bit is set no lock is held
pub holds-none : (lock : ℕ) → is_held 0 lock ≡ false
holds-none lock = rw (holds-bit 0 lock, bit_at-zero lock) refl

-- a lock that is acquired is held beside those before it
pub holds-acquired : (held lock k : ℕ) → is_held (bit_or held (2 ^ lock)) k ≡ ((k == lock) || is_held held k)
holds-acquired held lock k =
    rw (holds-bit (bit_or held (2 ^ lock)) k, holds-bit held k, bit_at_or held (2 ^ lock) k) (
    let small = bit_at-lt held k in
    ⊎_elim
    (λ (same : k ≡ lock). let one : bit_at (2 ^ lock) k ≡ 1 = rw same (bit_at-pow_same lock) in grind (arith, nat_tests))
    (λ (apart : k ≡ lock → ⊥). let none : bit_at (2 ^ lock) k ≡ 0 = bit_at-pow_other lock k apart in grind (arith, nat_tests))
    (cases_eq k lock)
    )

-- a lock that is held and released is held no longer, and each other one as before
pub holds-released : (held lock k : ℕ) → is_held held lock ≡ true → is_held (bit_xor held (2 ^ lock)) k ≡ (not (k == lock) && is_held held k)
holds-released held lock k there =
    rw (holds-bit (bit_xor held (2 ^ lock)) k, holds-bit held k, bit_at_xor held (2 ^ lock) k) (
    let small = bit_at-lt held k in
    ⊎_elim
    (λ (same : k ≡ lock).
    let one : bit_at (2 ^ lock) k ≡ 1 = rw same (bit_at-pow_same lock) in
    let held_bit : (bit_at held k == 1) ≡ true = rw same (sym (holds-bit held lock) ∙ there) in
    grind (arith, nat_tests))
    (λ (apart : k ≡ lock → ⊥). let none : bit_at (2 ^ lock) k ≡ 0 = bit_at-pow_other lock k apart in grind (arith, nat_tests))
    (cases_eq k lock)
    )
