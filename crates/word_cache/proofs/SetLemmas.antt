-- Which places are a set's.
use Rattle.std.proofs.Common.{◌≡◌, ℕ, ◌+◌, ◌*◌, ◌/◌, ◌<◌, ◌≤◌, refl, arith}

-- the places of set s are those from `s * ways` on
pub from_start : (s ways k : ℕ) → 0 < ways → k / ways ≡ s → (s * ways ≤ k) × (k < s * ways + ways)
from_start s ways k some at =
    let product : ways * (k / ways) ≡ ways * s = rw at refl in
    (omega (arith, some, product), omega (arith, some, product))

pub in_set : (s ways k : ℕ) → 0 < ways → s * ways ≤ k → k < s * ways + ways → k / ways ≡ s
in_set s ways k some low high = grind arith
