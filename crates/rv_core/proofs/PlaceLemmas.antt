-- Where a code word's address stands in the code, by a rotation.
use Rattle.std.proofs.Common.{◌≡◌, ◌⊎◌, inl, inr, ℕ, ◌+◌, ◌-◌, ◌*◌, ◌/◌, ◌%◌, ◌^◌, ◌<◌, ◌≤◌, bit_or, ap, ◌∙◌, arith}
use Rattle.std.proofs.lemmas.Nat.{or_comm, or_shifted, shr_below}

-- a rotation by two to the right puts to the top what a number is above a multiple of 4
rotated-two : (n : ℕ) → n < 4294967296 → bit_or (n / 2 ^ 2) (n * 2 ^ 30 % 2 ^ 32) ≡ n % 4 * 1073741824 + n / 4
rotated-two n fits =
    let low : n * 2 ^ 30 % 2 ^ 32 ≡ n % 4 * 2 ^ 30 = omega arith in
    ap (bit_or (n / 2 ^ 2)) low ∙ or_comm (n / 2 ^ 2) (n % 4 * 2 ^ 30) ∙ or_shifted (n % 4) 30 (n / 2 ^ 2) (shr_below n 30 2 fits)

-- the distance of an address from the code, rotated
abbrev pub place : ℕ → ℕ
place pc = bit_or ((pc + 4294963200) % 4294967296 / 2 ^ 2) ((pc + 4294963200) % 4294967296 * 2 ^ 30 % 2 ^ 32)

pub place-here : (pc : ℕ) → pc < 4294967296 → 4096 ≤ pc → pc % 4 ≡ 0 → place pc ≡ (pc - 4096) / 4
place-here pc fits low aligned = rotated-two ((pc + 4294963200) % 4294967296) (omega arith) ∙ omega (arith, fits, low, aligned)

pub place-nowhere : (pc : ℕ) → pc < 4294967296 → (pc < 4096) ⊎ (0 < pc % 4) → 65536 ≤ place pc
place-nowhere pc fits (inl below) = rw (rotated-two ((pc + 4294963200) % 4294967296) (omega arith)) (omega (arith, fits, below))
place-nowhere pc fits (inr off) = rw (rotated-two ((pc + 4294963200) % 4294967296) (omega arith)) (omega (arith, fits, off))
