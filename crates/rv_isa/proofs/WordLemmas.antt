-- What the fields of a word are, and what the bits of an immediate are.
use Rattle.std.proofs.Common.{◌≡◌, ℕ, suc, ◌+◌, ◌-◌, ◌*◌, ◌/◌, ◌%◌, ◌^◌, ◌<◌, ◌≤◌, ℤ, pos, inl, inr, ap, ◌∙◌, arith}
use Rattle.std.specs.Prelude.{negsuc}
use Rattle.std.proofs.lemmas.Nat.{mod-pow-add, shr-shr}
use Rattle.std.proofs.lemmas.Int.{ints}
use Rattle.std.proofs.lemmas.Bool.{cases_lt}
use Rattle.rv_isa.specs.Word.{bits, pattern, sign_extended}
use Rattle.rv_isa.specs.Encoding.{word}
use Rattle.rv_isa.specs.Range.{IsSigned}

-- a field is its upper part and its lower part
pub bits-join : (w lo n m : ℕ) → bits w lo (m + n) ≡ bits w (lo + n) m * 2 ^ n + bits w lo n
unfolding bits
bits-join w lo n m =
    mod-pow-add (w / 2 ^ lo) m n ∙ ap (λ (q : ℕ). q % 2 ^ m * 2 ^ n + w / 2 ^ lo % 2 ^ n) (shr-shr w lo n)

pub bits-whole : (w : ℕ) → w < 2 ^ 32 → bits w 0 32 ≡ w
unfolding bits
bits-whole w h = omega arith

pub bits-below-1 : (w lo : ℕ) → bits w lo 1 < 2
unfolding bits
bits-below-1 w lo = omega arith

pub bits-below-3 : (w lo : ℕ) → bits w lo 3 < 2 ^ 3
unfolding bits
bits-below-3 w lo = omega arith

pub bits-below-4 : (w lo : ℕ) → bits w lo 4 < 2 ^ 4
unfolding bits
bits-below-4 w lo = omega arith

pub bits-below-5 : (w lo : ℕ) → bits w lo 5 < 2 ^ 5
unfolding bits
bits-below-5 w lo = omega arith

pub bits-below-6 : (w lo : ℕ) → bits w lo 6 < 2 ^ 6
unfolding bits
bits-below-6 w lo = omega arith

pub bits-below-7 : (w lo : ℕ) → bits w lo 7 < 2 ^ 7
unfolding bits
bits-below-7 w lo = omega arith

pub bits-below-20 : (w lo : ℕ) → bits w lo 20 < 2 ^ 20
unfolding bits
bits-below-20 w lo = omega arith

pub bits-small_5 : (n : ℕ) → n < 2 ^ 5 → bits n 0 5 ≡ n
unfolding bits
bits-small_5 n h = omega arith

pub bits-small_20 : (n : ℕ) → n < 2 ^ 20 → bits n 0 20 ≡ n
unfolding bits
bits-small_20 n h = omega arith

-- the six fields of a word make it up
pub word-fields : (w : ℕ) → w < 2 ^ 32 → word (bits w 0 7) (bits w 7 5) (bits w 12 3) (bits w 15 5) (bits w 20 5) (bits w 25 7) ≡ w
unfolding word
word-fields w h =
    let e0 = bits-whole w h in
    let e1 = bits-join w 0 7 25 in
    let e2 = bits-join w 7 5 20 in
    let e3 = bits-join w 12 3 17 in
    let e4 = bits-join w 15 5 12 in
    let e5 = bits-join w 20 5 7 in
    omega arith

-- the six values that a word was made of
pub record AreFields (w code d f3 a b f7 : ℕ) : Type 0 where
  pub opcode : bits w 0 7 ≡ code
  pub rd : bits w 7 5 ≡ d
  pub funct3 : bits w 12 3 ≡ f3
  pub rs1 : bits w 15 5 ≡ a
  pub rs2 : bits w 20 5 ≡ b
  pub funct7 : bits w 25 7 ≡ f7

pub fields_of : (code d f3 a b f7 : ℕ) → code < 128 → d < 32 → f3 < 8 → a < 32 → b < 32 → f7 < 128 → AreFields (word code d f3 a b f7) code d f3 a b f7
unfolding word bits
fields_of code d f3 a b f7 h1 h2 h3 h4 h5 h6 = record {
  opcode = omega arith;
  rd = omega arith;
  funct3 = omega arith;
  rs1 = omega arith;
  rs2 = omega arith;
  funct7 = omega arith;
}

by_lt : {P : Type 0} (a b : ℕ) → (a < b → P) → (b ≤ a → P) → P
by_lt a b f g = elim (cases_lt a b) [ inl h ↦ f h | inr h ↦ g h ]

-- two's complement in twelve, thirteen and twenty-one bits

sign_extended-low_12 : (u : ℕ) → u < 2048 → sign_extended 12 u ≡ pos u
unfolding sign_extended
sign_extended-low_12 u h = grind arith

sign_extended-high_12 : (u : ℕ) → 2048 ≤ u → u < 4096 → sign_extended 12 u ≡ negsuc (4096 - suc u)
unfolding sign_extended
sign_extended-high_12 u h k = grind arith

pub signed-pattern_12 : (z : ℤ) → IsSigned 12 z → sign_extended 12 (bits (pattern z) 0 12) ≡ z
unfolding bits
signed-pattern_12 (pos k) h =
    let below : k < 2048 = omega (arith, ints, h.high) in
    let same : k / 1 % 4096 ≡ k = omega arith in
    rw same (sign_extended-low_12 k below)
signed-pattern_12 (negsuc k) h =
    let below : k < 2048 = omega (arith, ints, h.low) in
    let same : (4294967296 - suc k) / 1 % 4096 ≡ 4096 - suc k = omega arith in
    rw same (sign_extended-high_12 (4096 - suc k) (omega arith) (omega arith) ∙ ap negsuc (omega arith))

pub pattern-signed_12 : (u : ℕ) → u < 2 ^ 12 → bits (pattern (sign_extended 12 u)) 0 12 ≡ u
pattern-signed_12 u h = by_lt u 2048 (λ low. rw (sign_extended-low_12 u low) (unfold bits in omega arith)) (λ high. rw (sign_extended-high_12 u high h) (unfold bits in omega arith))

pub IsSigned-sign_extended_12 : (u : ℕ) → u < 2 ^ 12 → IsSigned 12 (sign_extended 12 u)
IsSigned-sign_extended_12 u h = by_lt u 2048 (λ low. rw (sign_extended-low_12 u low) (record { low = omega (arith, ints); high = omega (arith, ints) })) (λ high. rw (sign_extended-high_12 u high h) (record { low = omega (arith, ints); high = omega (arith, ints) }))

sign_extended-low_13 : (u : ℕ) → u < 4096 → sign_extended 13 u ≡ pos u
unfolding sign_extended
sign_extended-low_13 u h = grind arith

sign_extended-high_13 : (u : ℕ) → 4096 ≤ u → u < 8192 → sign_extended 13 u ≡ negsuc (8192 - suc u)
unfolding sign_extended
sign_extended-high_13 u h k = grind arith

pub signed-pattern_13 : (z : ℤ) → IsSigned 13 z → sign_extended 13 (bits (pattern z) 0 13) ≡ z
unfolding bits
signed-pattern_13 (pos k) h =
    let below : k < 4096 = omega (arith, ints, h.high) in
    let same : k / 1 % 8192 ≡ k = omega arith in
    rw same (sign_extended-low_13 k below)
signed-pattern_13 (negsuc k) h =
    let below : k < 4096 = omega (arith, ints, h.low) in
    let same : (4294967296 - suc k) / 1 % 8192 ≡ 8192 - suc k = omega arith in
    rw same (sign_extended-high_13 (8192 - suc k) (omega arith) (omega arith) ∙ ap negsuc (omega arith))

pub pattern-signed_13 : (u : ℕ) → u < 2 ^ 13 → bits (pattern (sign_extended 13 u)) 0 13 ≡ u
pattern-signed_13 u h = by_lt u 4096 (λ low. rw (sign_extended-low_13 u low) (unfold bits in omega arith)) (λ high. rw (sign_extended-high_13 u high h) (unfold bits in omega arith))

pub IsSigned-sign_extended_13 : (u : ℕ) → u < 2 ^ 13 → IsSigned 13 (sign_extended 13 u)
IsSigned-sign_extended_13 u h = by_lt u 4096 (λ low. rw (sign_extended-low_13 u low) (record { low = omega (arith, ints); high = omega (arith, ints) })) (λ high. rw (sign_extended-high_13 u high h) (record { low = omega (arith, ints); high = omega (arith, ints) }))

sign_extended-low_21 : (u : ℕ) → u < 1048576 → sign_extended 21 u ≡ pos u
unfolding sign_extended
sign_extended-low_21 u h = grind arith

sign_extended-high_21 : (u : ℕ) → 1048576 ≤ u → u < 2097152 → sign_extended 21 u ≡ negsuc (2097152 - suc u)
unfolding sign_extended
sign_extended-high_21 u h k = grind arith

pub signed-pattern_21 : (z : ℤ) → IsSigned 21 z → sign_extended 21 (bits (pattern z) 0 21) ≡ z
unfolding bits
signed-pattern_21 (pos k) h =
    let below : k < 1048576 = omega (arith, ints, h.high) in
    let same : k / 1 % 2097152 ≡ k = omega arith in
    rw same (sign_extended-low_21 k below)
signed-pattern_21 (negsuc k) h =
    let below : k < 1048576 = omega (arith, ints, h.low) in
    let same : (4294967296 - suc k) / 1 % 2097152 ≡ 2097152 - suc k = omega arith in
    rw same (sign_extended-high_21 (2097152 - suc k) (omega arith) (omega arith) ∙ ap negsuc (omega arith))

pub pattern-signed_21 : (u : ℕ) → u < 2 ^ 21 → bits (pattern (sign_extended 21 u)) 0 21 ≡ u
pattern-signed_21 u h = by_lt u 1048576 (λ low. rw (sign_extended-low_21 u low) (unfold bits in omega arith)) (λ high. rw (sign_extended-high_21 u high h) (unfold bits in omega arith))

pub IsSigned-sign_extended_21 : (u : ℕ) → u < 2 ^ 21 → IsSigned 21 (sign_extended 21 u)
IsSigned-sign_extended_21 u h = by_lt u 1048576 (λ low. rw (sign_extended-low_21 u low) (record { low = omega (arith, ints); high = omega (arith, ints) })) (λ high. rw (sign_extended-high_21 u high h) (record { low = omega (arith, ints); high = omega (arith, ints) }))
