-- Each format, both ways: the word that is made has the fields, and the fields make the word.
use Rattle.std.proofs.Common.{◌≡◌, ℕ, ◌+◌, ◌*◌, ◌^◌, ◌<◌, ℤ, pos, refl, sym, ap, ◌∙◌, arith}
use Rattle.std.specs.Prelude.{negsuc}
use Rattle.std.proofs.lemmas.Int.{ints}
use Rattle.rv_isa.specs.Word.{bits, pattern, sign_extended}
use Rattle.rv_isa.specs.Range.{IsSigned, IsOffset, IsAmount}
use Rattle.rv_isa.specs.Row.{IsR, IsI, IsShift, IsS, IsB, IsU, IsJ}
use Rattle.rv_isa.specs.Encoding.{word, word_i, word_s, word_b, word_u, word_j}
use Rattle.rv_isa.proofs.WordLemmas.{bits-join, bits-below-1, bits-below-3, bits-below-4, bits-below-5, bits-below-6, bits-below-7, bits-below-20, bits-small_5, bits-small_20, word-fields, fields_of, signed-pattern_12, signed-pattern_13, signed-pattern_21, pattern-signed_12, pattern-signed_13, pattern-signed_21, IsSigned-sign_extended_12, IsSigned-sign_extended_13, IsSigned-sign_extended_21}

-- ---- R: no immediate

pub r-made : (code f3 f7 d a b : ℕ) → code < 128 → f3 < 8 → f7 < 128 → d < 32 → a < 32 → b < 32 → IsR code f3 f7 d a b (word code d f3 a b f7)
r-made code f3 f7 d a b h1 h2 h3 h4 h5 h6 =
    let x = fields_of code d f3 a b f7 h1 h4 h2 h5 h6 h3 in
    record { has_opcode = x.opcode; has_funct3 = x.funct3; has_funct7 = x.funct7; has_rd = sym x.rd; has_rs1 = sym x.rs1; has_rs2 = sym x.rs2 }

pub r-makes : (code f3 f7 d a b w : ℕ) → w < 2 ^ 32 → IsR code f3 f7 d a b w → word code d f3 a b f7 ≡ w
r-makes code f3 f7 d a b w h r = let whole = word-fields w h in cc

-- ---- shifts by an immediate

pub shift-made : (code f3 f7 d a : ℕ) (z : ℤ) → code < 128 → f3 < 8 → f7 < 128 → d < 32 → a < 32 → IsAmount z → IsShift code f3 f7 d a z (word code d f3 a (bits (pattern z) 0 5) f7)
shift-made code f3 f7 d a (pos k) h1 h2 h3 h4 h5 h6 =
    let x = fields_of code d f3 a (bits k 0 5) f7 h1 h4 h2 h5 (bits-below-5 k 0) h3 in
    let small : k < 32 = omega (arith, ints, h6.high) in
    record { has_opcode = x.opcode; has_funct3 = x.funct3; has_funct7 = x.funct7; has_rd = sym x.rd; has_rs1 = sym x.rs1; has_amount = ap pos (sym (x.rs2 ∙ bits-small_5 k small)) }
shift-made code f3 f7 d a (negsuc k) h1 h2 h3 h4 h5 h6 = absurd (omega (arith, ints, h6.low))

pub shift-makes : (code f3 f7 d a : ℕ) (z : ℤ) (w : ℕ) → w < 2 ^ 32 → IsShift code f3 f7 d a z w → word code d f3 a (bits (pattern z) 0 5) f7 ≡ w
shift-makes code f3 f7 d a z w h r =
    let whole = word-fields w h in
    let low : bits (pattern z) 0 5 ≡ bits w 20 5 = rw (r.has_amount) (bits-small_5 (bits w 20 5) (bits-below-5 w 20)) in
    cc

pub shift-fits : (code f3 f7 d a : ℕ) (z : ℤ) (w : ℕ) → IsShift code f3 f7 d a z w → IsAmount z
shift-fits code f3 f7 d a z w r =
    let below = bits-below-5 w 20 in
    rw (r.has_amount) (record { low = omega (arith, ints); high = omega (arith, ints) })

-- ---- I

-- the immediate in the word w is that of the pattern p, where its places are
i-number : (p w : ℕ) → bits w 20 5 ≡ bits p 0 5 → bits w 25 7 ≡ bits p 5 7 → bits w 20 12 ≡ bits p 0 12
i-number p w e0 e1 =
    let w0 = bits-join w 20 5 7 in
    let p0 = bits-join p 0 5 7 in
    let v0 = bits-below-5 w 20 in
    let v1 = bits-below-7 w 25 in
    let q0 = bits-below-5 p 0 in
    let q1 = bits-below-7 p 5 in
    omega arith

i-place_0 : (p w : ℕ) → bits w 20 12 ≡ bits p 0 12 → bits p 0 5 ≡ bits w 20 5
i-place_0 p w e =
    let w0 = bits-join w 20 5 7 in
    let p0 = bits-join p 0 5 7 in
    let v0 = bits-below-5 w 20 in
    let v1 = bits-below-7 w 25 in
    let q0 = bits-below-5 p 0 in
    let q1 = bits-below-7 p 5 in
    omega arith

i-place_1 : (p w : ℕ) → bits w 20 12 ≡ bits p 0 12 → bits p 5 7 ≡ bits w 25 7
i-place_1 p w e =
    let w0 = bits-join w 20 5 7 in
    let p0 = bits-join p 0 5 7 in
    let v0 = bits-below-5 w 20 in
    let v1 = bits-below-7 w 25 in
    let q0 = bits-below-5 p 0 in
    let q1 = bits-below-7 p 5 in
    omega arith

i-made_from : (code f3 d a p : ℕ) (z : ℤ) → p ≡ pattern z → code < 128 → f3 < 8 → d < 32 → a < 32 → IsSigned 12 z → IsI code f3 d a z (word_i code d f3 a p)
i-made_from code f3 d a p z is h1 h2 h3 h4 fits =
    let x = fields_of code d f3 a (bits p 0 5) (bits p 5 7) h1 h3 h2 h4 (bits-below-5 p 0) (bits-below-7 p 5) in
    let number = i-number p (word_i code d f3 a p) x.rs2 x.funct7 in
    record { has_opcode = x.opcode; has_funct3 = x.funct3; has_rd = sym x.rd; has_rs1 = sym x.rs1; has_imm = sym (ap (sign_extended 12) (number ∙ ap (λ (q : ℕ). bits q 0 12) is) ∙ signed-pattern_12 z fits) }

pub i-made : (code f3 d a : ℕ) (z : ℤ) → code < 128 → f3 < 8 → d < 32 → a < 32 → IsSigned 12 z → IsI code f3 d a z (word_i code d f3 a (pattern z))
i-made code f3 d a z h1 h2 h3 h4 fits = i-made_from code f3 d a (pattern z) z refl h1 h2 h3 h4 fits

i-below : (w : ℕ) → bits w 20 12 < 2 ^ 12
i-below w =
    let v0 = bits-below-5 w 20 in
    let v1 = bits-below-7 w 25 in
    let w0 = bits-join w 20 5 7 in
    omega arith

i-pattern : (code f3 d a : ℕ) (z : ℤ) (w : ℕ) → IsI code f3 d a z w → bits w 20 12 ≡ bits (pattern z) 0 12
i-pattern code f3 d a z w r = rw (r.has_imm) (sym (pattern-signed_12 (bits w 20 12) (i-below w)))

pub i-makes : (code f3 d a : ℕ) (z : ℤ) (w : ℕ) → w < 2 ^ 32 → IsI code f3 d a z w → word_i code d f3 a (pattern z) ≡ w
i-makes code f3 d a z w h r =
    let whole = word-fields w h in
    let number = i-pattern code f3 d a z w r in
    let e0 = i-place_0 (pattern z) w number in
    let e1 = i-place_1 (pattern z) w number in
    cc

pub i-fits : (code f3 d a : ℕ) (z : ℤ) (w : ℕ) → IsI code f3 d a z w → IsSigned 12 z
i-fits code f3 d a z w r = rw (r.has_imm) (IsSigned-sign_extended_12 (bits w 20 12) (i-below w))

-- ---- S

-- the immediate in the word w is that of the pattern p, where its places are
s-number : (p w : ℕ) → bits w 7 5 ≡ bits p 0 5 → bits w 25 7 ≡ bits p 5 7 → bits w 25 7 * 2 ^ 5 + bits w 7 5 ≡ bits p 0 12
s-number p w e0 e1 =
    let p0 = bits-join p 0 5 7 in
    let v0 = bits-below-5 w 7 in
    let v1 = bits-below-7 w 25 in
    let q0 = bits-below-5 p 0 in
    let q1 = bits-below-7 p 5 in
    omega arith

s-place_0 : (p w : ℕ) → bits w 25 7 * 2 ^ 5 + bits w 7 5 ≡ bits p 0 12 → bits p 0 5 ≡ bits w 7 5
s-place_0 p w e =
    let p0 = bits-join p 0 5 7 in
    let v0 = bits-below-5 w 7 in
    let v1 = bits-below-7 w 25 in
    let q0 = bits-below-5 p 0 in
    let q1 = bits-below-7 p 5 in
    omega arith

s-place_1 : (p w : ℕ) → bits w 25 7 * 2 ^ 5 + bits w 7 5 ≡ bits p 0 12 → bits p 5 7 ≡ bits w 25 7
s-place_1 p w e =
    let p0 = bits-join p 0 5 7 in
    let v0 = bits-below-5 w 7 in
    let v1 = bits-below-7 w 25 in
    let q0 = bits-below-5 p 0 in
    let q1 = bits-below-7 p 5 in
    omega arith

s-made_from : (code f3 a b p : ℕ) (z : ℤ) → p ≡ pattern z → code < 128 → f3 < 8 → a < 32 → b < 32 → IsSigned 12 z → IsS code f3 a b z (word_s code f3 a b p)
s-made_from code f3 a b p z is h1 h2 h3 h4 fits =
    let x = fields_of code (bits p 0 5) f3 a b (bits p 5 7) h1 (bits-below-5 p 0) h2 h3 h4 (bits-below-7 p 5) in
    let number = s-number p (word_s code f3 a b p) x.rd x.funct7 in
    record { has_opcode = x.opcode; has_funct3 = x.funct3; has_rs1 = sym x.rs1; has_rs2 = sym x.rs2; has_imm = sym (ap (sign_extended 12) (number ∙ ap (λ (q : ℕ). bits q 0 12) is) ∙ signed-pattern_12 z fits) }

pub s-made : (code f3 a b : ℕ) (z : ℤ) → code < 128 → f3 < 8 → a < 32 → b < 32 → IsSigned 12 z → IsS code f3 a b z (word_s code f3 a b (pattern z))
s-made code f3 a b z h1 h2 h3 h4 fits = s-made_from code f3 a b (pattern z) z refl h1 h2 h3 h4 fits

s-below : (w : ℕ) → bits w 25 7 * 2 ^ 5 + bits w 7 5 < 2 ^ 12
s-below w =
    let v0 = bits-below-5 w 7 in
    let v1 = bits-below-7 w 25 in
    omega arith

s-pattern : (code f3 a b : ℕ) (z : ℤ) (w : ℕ) → IsS code f3 a b z w → bits w 25 7 * 2 ^ 5 + bits w 7 5 ≡ bits (pattern z) 0 12
s-pattern code f3 a b z w r = rw (r.has_imm) (sym (pattern-signed_12 (bits w 25 7 * 2 ^ 5 + bits w 7 5) (s-below w)))

pub s-makes : (code f3 a b : ℕ) (z : ℤ) (w : ℕ) → w < 2 ^ 32 → IsS code f3 a b z w → word_s code f3 a b (pattern z) ≡ w
s-makes code f3 a b z w h r =
    let whole = word-fields w h in
    let number = s-pattern code f3 a b z w r in
    let e0 = s-place_0 (pattern z) w number in
    let e1 = s-place_1 (pattern z) w number in
    cc

pub s-fits : (code f3 a b : ℕ) (z : ℤ) (w : ℕ) → IsS code f3 a b z w → IsSigned 12 z
s-fits code f3 a b z w r = rw (r.has_imm) (IsSigned-sign_extended_12 (bits w 25 7 * 2 ^ 5 + bits w 7 5) (s-below w))

-- ---- B

-- the immediate in the word w is that of the pattern p, where its places are
b-number : (p w : ℕ) → bits p 0 1 ≡ 0 → bits w 7 5 ≡ bits p 1 4 * 2 + bits p 11 1 → bits w 25 7 ≡ bits p 12 1 * 2 ^ 6 + bits p 5 6 → bits w 31 1 * 2 ^ 12 + bits w 7 1 * 2 ^ 11 + bits w 25 6 * 2 ^ 5 + bits w 8 4 * 2 ≡ bits p 0 13
b-number p w even e0 e1 =
    let w0 = bits-join w 7 1 4 in
    let w1 = bits-join w 25 6 1 in
    let p0 = bits-join p 0 12 1 in
    let p1 = bits-join p 0 11 1 in
    let p2 = bits-join p 0 5 6 in
    let p3 = bits-join p 0 1 4 in
    let v0 = bits-below-1 w 7 in
    let v1 = bits-below-4 w 8 in
    let v2 = bits-below-6 w 25 in
    let v3 = bits-below-1 w 31 in
    let q0 = bits-below-1 p 0 in
    let q1 = bits-below-4 p 1 in
    let q2 = bits-below-6 p 5 in
    let q3 = bits-below-1 p 11 in
    let q4 = bits-below-1 p 12 in
    omega arith

b-place_0 : (p w : ℕ) → bits w 31 1 * 2 ^ 12 + bits w 7 1 * 2 ^ 11 + bits w 25 6 * 2 ^ 5 + bits w 8 4 * 2 ≡ bits p 0 13 → bits p 1 4 * 2 + bits p 11 1 ≡ bits w 7 5
b-place_0 p w e =
    let w0 = bits-join w 7 1 4 in
    let w1 = bits-join w 25 6 1 in
    let p0 = bits-join p 0 12 1 in
    let p1 = bits-join p 0 11 1 in
    let p2 = bits-join p 0 5 6 in
    let p3 = bits-join p 0 1 4 in
    let v0 = bits-below-1 w 7 in
    let v1 = bits-below-4 w 8 in
    let v2 = bits-below-6 w 25 in
    let v3 = bits-below-1 w 31 in
    let q0 = bits-below-1 p 0 in
    let q1 = bits-below-4 p 1 in
    let q2 = bits-below-6 p 5 in
    let q3 = bits-below-1 p 11 in
    let q4 = bits-below-1 p 12 in
    omega arith

b-place_1 : (p w : ℕ) → bits w 31 1 * 2 ^ 12 + bits w 7 1 * 2 ^ 11 + bits w 25 6 * 2 ^ 5 + bits w 8 4 * 2 ≡ bits p 0 13 → bits p 12 1 * 2 ^ 6 + bits p 5 6 ≡ bits w 25 7
b-place_1 p w e =
    let w0 = bits-join w 7 1 4 in
    let w1 = bits-join w 25 6 1 in
    let p0 = bits-join p 0 12 1 in
    let p1 = bits-join p 0 11 1 in
    let p2 = bits-join p 0 5 6 in
    let p3 = bits-join p 0 1 4 in
    let v0 = bits-below-1 w 7 in
    let v1 = bits-below-4 w 8 in
    let v2 = bits-below-6 w 25 in
    let v3 = bits-below-1 w 31 in
    let q0 = bits-below-1 p 0 in
    let q1 = bits-below-4 p 1 in
    let q2 = bits-below-6 p 5 in
    let q3 = bits-below-1 p 11 in
    let q4 = bits-below-1 p 12 in
    omega arith

b-even : (p w : ℕ) → bits w 31 1 * 2 ^ 12 + bits w 7 1 * 2 ^ 11 + bits w 25 6 * 2 ^ 5 + bits w 8 4 * 2 ≡ bits p 0 13 → bits p 0 1 ≡ 0
b-even p w e =
    let w0 = bits-join w 7 1 4 in
    let w1 = bits-join w 25 6 1 in
    let p0 = bits-join p 0 12 1 in
    let p1 = bits-join p 0 11 1 in
    let p2 = bits-join p 0 5 6 in
    let p3 = bits-join p 0 1 4 in
    let v0 = bits-below-1 w 7 in
    let v1 = bits-below-4 w 8 in
    let v2 = bits-below-6 w 25 in
    let v3 = bits-below-1 w 31 in
    let q0 = bits-below-1 p 0 in
    let q1 = bits-below-4 p 1 in
    let q2 = bits-below-6 p 5 in
    let q3 = bits-below-1 p 11 in
    let q4 = bits-below-1 p 12 in
    omega arith

b-made_from : (code f3 a b p : ℕ) (z : ℤ) → p ≡ pattern z → code < 128 → f3 < 8 → a < 32 → b < 32 → IsOffset 13 z → IsB code f3 a b z (word_b code f3 a b p)
b-made_from code f3 a b p z is h1 h2 h3 h4 fits =
    let a0 = bits-below-1 p 11 in
    let a1 = bits-below-4 p 1 in
    let a2 = bits-below-1 p 12 in
    let a3 = bits-below-6 p 5 in
    let low_below : bits p 1 4 * 2 + bits p 11 1 < 32 = omega arith in
    let high_below : bits p 12 1 * 2 ^ 6 + bits p 5 6 < 128 = omega arith in
    let x = fields_of code (bits p 1 4 * 2 + bits p 11 1) f3 a b (bits p 12 1 * 2 ^ 6 + bits p 5 6) h1 low_below h2 h3 h4 high_below in
    let even : bits p 0 1 ≡ 0 = rw is fits.even in
    let number = b-number p (word_b code f3 a b p) even x.rd x.funct7 in
    record { has_opcode = x.opcode; has_funct3 = x.funct3; has_rs1 = sym x.rs1; has_rs2 = sym x.rs2; has_imm = sym (ap (sign_extended 13) (number ∙ ap (λ (q : ℕ). bits q 0 13) is) ∙ signed-pattern_13 z fits.within) }

pub b-made : (code f3 a b : ℕ) (z : ℤ) → code < 128 → f3 < 8 → a < 32 → b < 32 → IsOffset 13 z → IsB code f3 a b z (word_b code f3 a b (pattern z))
b-made code f3 a b z h1 h2 h3 h4 fits = b-made_from code f3 a b (pattern z) z refl h1 h2 h3 h4 fits

b-below : (w : ℕ) → bits w 31 1 * 2 ^ 12 + bits w 7 1 * 2 ^ 11 + bits w 25 6 * 2 ^ 5 + bits w 8 4 * 2 < 2 ^ 13
b-below w =
    let v0 = bits-below-1 w 7 in
    let v1 = bits-below-4 w 8 in
    let v2 = bits-below-6 w 25 in
    let v3 = bits-below-1 w 31 in
    let w0 = bits-join w 7 1 4 in
    let w1 = bits-join w 25 6 1 in
    omega arith

b-pattern : (code f3 a b : ℕ) (z : ℤ) (w : ℕ) → IsB code f3 a b z w → bits w 31 1 * 2 ^ 12 + bits w 7 1 * 2 ^ 11 + bits w 25 6 * 2 ^ 5 + bits w 8 4 * 2 ≡ bits (pattern z) 0 13
b-pattern code f3 a b z w r = rw (r.has_imm) (sym (pattern-signed_13 (bits w 31 1 * 2 ^ 12 + bits w 7 1 * 2 ^ 11 + bits w 25 6 * 2 ^ 5 + bits w 8 4 * 2) (b-below w)))

pub b-makes : (code f3 a b : ℕ) (z : ℤ) (w : ℕ) → w < 2 ^ 32 → IsB code f3 a b z w → word_b code f3 a b (pattern z) ≡ w
b-makes code f3 a b z w h r =
    let whole = word-fields w h in
    let number = b-pattern code f3 a b z w r in
    let e0 = b-place_0 (pattern z) w number in
    let e1 = b-place_1 (pattern z) w number in
    cc

pub b-fits : (code f3 a b : ℕ) (z : ℤ) (w : ℕ) → IsB code f3 a b z w → IsOffset 13 z
b-fits code f3 a b z w r = record {
  within = rw (r.has_imm) (IsSigned-sign_extended_13 (bits w 31 1 * 2 ^ 12 + bits w 7 1 * 2 ^ 11 + bits w 25 6 * 2 ^ 5 + bits w 8 4 * 2) (b-below w));
  even = b-even (pattern z) w (b-pattern code f3 a b z w r);
}

-- ---- J

-- the immediate in the word w is that of the pattern p, where its places are
j-number : (p w : ℕ) → bits p 0 1 ≡ 0 → bits w 12 3 ≡ bits p 12 3 → bits w 15 5 ≡ bits p 15 5 → bits w 20 5 ≡ bits p 1 4 * 2 + bits p 11 1 → bits w 25 7 ≡ bits p 20 1 * 2 ^ 6 + bits p 5 6 → bits w 31 1 * 2 ^ 20 + bits w 12 8 * 2 ^ 12 + bits w 20 1 * 2 ^ 11 + bits w 21 10 * 2 ≡ bits p 0 21
j-number p w even e0 e1 e2 e3 =
    let w0 = bits-join w 12 3 5 in
    let w1 = bits-join w 20 1 4 in
    let w2 = bits-join w 21 4 6 in
    let w3 = bits-join w 25 6 1 in
    let p0 = bits-join p 0 20 1 in
    let p1 = bits-join p 0 12 8 in
    let p2 = bits-join p 12 3 5 in
    let p3 = bits-join p 0 11 1 in
    let p4 = bits-join p 0 5 6 in
    let p5 = bits-join p 0 1 4 in
    let v0 = bits-below-3 w 12 in
    let v1 = bits-below-5 w 15 in
    let v2 = bits-below-1 w 20 in
    let v3 = bits-below-4 w 21 in
    let v4 = bits-below-6 w 25 in
    let v5 = bits-below-1 w 31 in
    let q0 = bits-below-1 p 0 in
    let q1 = bits-below-4 p 1 in
    let q2 = bits-below-6 p 5 in
    let q3 = bits-below-1 p 11 in
    let q4 = bits-below-3 p 12 in
    let q5 = bits-below-5 p 15 in
    let q6 = bits-below-1 p 20 in
    omega arith

j-place_0 : (p w : ℕ) → bits w 31 1 * 2 ^ 20 + bits w 12 8 * 2 ^ 12 + bits w 20 1 * 2 ^ 11 + bits w 21 10 * 2 ≡ bits p 0 21 → bits p 12 3 ≡ bits w 12 3
j-place_0 p w e =
    let w0 = bits-join w 12 3 5 in
    let w1 = bits-join w 20 1 4 in
    let w2 = bits-join w 21 4 6 in
    let w3 = bits-join w 25 6 1 in
    let p0 = bits-join p 0 20 1 in
    let p1 = bits-join p 0 12 8 in
    let p2 = bits-join p 12 3 5 in
    let p3 = bits-join p 0 11 1 in
    let p4 = bits-join p 0 5 6 in
    let p5 = bits-join p 0 1 4 in
    let v0 = bits-below-3 w 12 in
    let v1 = bits-below-5 w 15 in
    let v2 = bits-below-1 w 20 in
    let v3 = bits-below-4 w 21 in
    let v4 = bits-below-6 w 25 in
    let v5 = bits-below-1 w 31 in
    let q0 = bits-below-1 p 0 in
    let q1 = bits-below-4 p 1 in
    let q2 = bits-below-6 p 5 in
    let q3 = bits-below-1 p 11 in
    let q4 = bits-below-3 p 12 in
    let q5 = bits-below-5 p 15 in
    let q6 = bits-below-1 p 20 in
    omega arith

j-place_1 : (p w : ℕ) → bits w 31 1 * 2 ^ 20 + bits w 12 8 * 2 ^ 12 + bits w 20 1 * 2 ^ 11 + bits w 21 10 * 2 ≡ bits p 0 21 → bits p 15 5 ≡ bits w 15 5
j-place_1 p w e =
    let w0 = bits-join w 12 3 5 in
    let w1 = bits-join w 20 1 4 in
    let w2 = bits-join w 21 4 6 in
    let w3 = bits-join w 25 6 1 in
    let p0 = bits-join p 0 20 1 in
    let p1 = bits-join p 0 12 8 in
    let p2 = bits-join p 12 3 5 in
    let p3 = bits-join p 0 11 1 in
    let p4 = bits-join p 0 5 6 in
    let p5 = bits-join p 0 1 4 in
    let v0 = bits-below-3 w 12 in
    let v1 = bits-below-5 w 15 in
    let v2 = bits-below-1 w 20 in
    let v3 = bits-below-4 w 21 in
    let v4 = bits-below-6 w 25 in
    let v5 = bits-below-1 w 31 in
    let q0 = bits-below-1 p 0 in
    let q1 = bits-below-4 p 1 in
    let q2 = bits-below-6 p 5 in
    let q3 = bits-below-1 p 11 in
    let q4 = bits-below-3 p 12 in
    let q5 = bits-below-5 p 15 in
    let q6 = bits-below-1 p 20 in
    omega arith

j-place_2 : (p w : ℕ) → bits w 31 1 * 2 ^ 20 + bits w 12 8 * 2 ^ 12 + bits w 20 1 * 2 ^ 11 + bits w 21 10 * 2 ≡ bits p 0 21 → bits p 1 4 * 2 + bits p 11 1 ≡ bits w 20 5
j-place_2 p w e =
    let w0 = bits-join w 12 3 5 in
    let w1 = bits-join w 20 1 4 in
    let w2 = bits-join w 21 4 6 in
    let w3 = bits-join w 25 6 1 in
    let p0 = bits-join p 0 20 1 in
    let p1 = bits-join p 0 12 8 in
    let p2 = bits-join p 12 3 5 in
    let p3 = bits-join p 0 11 1 in
    let p4 = bits-join p 0 5 6 in
    let p5 = bits-join p 0 1 4 in
    let v0 = bits-below-3 w 12 in
    let v1 = bits-below-5 w 15 in
    let v2 = bits-below-1 w 20 in
    let v3 = bits-below-4 w 21 in
    let v4 = bits-below-6 w 25 in
    let v5 = bits-below-1 w 31 in
    let q0 = bits-below-1 p 0 in
    let q1 = bits-below-4 p 1 in
    let q2 = bits-below-6 p 5 in
    let q3 = bits-below-1 p 11 in
    let q4 = bits-below-3 p 12 in
    let q5 = bits-below-5 p 15 in
    let q6 = bits-below-1 p 20 in
    omega arith

j-place_3 : (p w : ℕ) → bits w 31 1 * 2 ^ 20 + bits w 12 8 * 2 ^ 12 + bits w 20 1 * 2 ^ 11 + bits w 21 10 * 2 ≡ bits p 0 21 → bits p 20 1 * 2 ^ 6 + bits p 5 6 ≡ bits w 25 7
j-place_3 p w e =
    let w0 = bits-join w 12 3 5 in
    let w1 = bits-join w 20 1 4 in
    let w2 = bits-join w 21 4 6 in
    let w3 = bits-join w 25 6 1 in
    let p0 = bits-join p 0 20 1 in
    let p1 = bits-join p 0 12 8 in
    let p2 = bits-join p 12 3 5 in
    let p3 = bits-join p 0 11 1 in
    let p4 = bits-join p 0 5 6 in
    let p5 = bits-join p 0 1 4 in
    let v0 = bits-below-3 w 12 in
    let v1 = bits-below-5 w 15 in
    let v2 = bits-below-1 w 20 in
    let v3 = bits-below-4 w 21 in
    let v4 = bits-below-6 w 25 in
    let v5 = bits-below-1 w 31 in
    let q0 = bits-below-1 p 0 in
    let q1 = bits-below-4 p 1 in
    let q2 = bits-below-6 p 5 in
    let q3 = bits-below-1 p 11 in
    let q4 = bits-below-3 p 12 in
    let q5 = bits-below-5 p 15 in
    let q6 = bits-below-1 p 20 in
    omega arith

j-even : (p w : ℕ) → bits w 31 1 * 2 ^ 20 + bits w 12 8 * 2 ^ 12 + bits w 20 1 * 2 ^ 11 + bits w 21 10 * 2 ≡ bits p 0 21 → bits p 0 1 ≡ 0
j-even p w e =
    let w0 = bits-join w 12 3 5 in
    let w1 = bits-join w 20 1 4 in
    let w2 = bits-join w 21 4 6 in
    let w3 = bits-join w 25 6 1 in
    let p0 = bits-join p 0 20 1 in
    let p1 = bits-join p 0 12 8 in
    let p2 = bits-join p 12 3 5 in
    let p3 = bits-join p 0 11 1 in
    let p4 = bits-join p 0 5 6 in
    let p5 = bits-join p 0 1 4 in
    let v0 = bits-below-3 w 12 in
    let v1 = bits-below-5 w 15 in
    let v2 = bits-below-1 w 20 in
    let v3 = bits-below-4 w 21 in
    let v4 = bits-below-6 w 25 in
    let v5 = bits-below-1 w 31 in
    let q0 = bits-below-1 p 0 in
    let q1 = bits-below-4 p 1 in
    let q2 = bits-below-6 p 5 in
    let q3 = bits-below-1 p 11 in
    let q4 = bits-below-3 p 12 in
    let q5 = bits-below-5 p 15 in
    let q6 = bits-below-1 p 20 in
    omega arith

j-made_from : (code d p : ℕ) (z : ℤ) → p ≡ pattern z → code < 128 → d < 32 → IsOffset 21 z → IsJ code d z (word_j code d p)
j-made_from code d p z is h1 h2 fits =
    let a0 = bits-below-1 p 11 in
    let a1 = bits-below-4 p 1 in
    let a2 = bits-below-1 p 20 in
    let a3 = bits-below-6 p 5 in
    let low_below : bits p 1 4 * 2 + bits p 11 1 < 32 = omega arith in
    let high_below : bits p 20 1 * 2 ^ 6 + bits p 5 6 < 128 = omega arith in
    let x = fields_of code d (bits p 12 3) (bits p 15 5) (bits p 1 4 * 2 + bits p 11 1) (bits p 20 1 * 2 ^ 6 + bits p 5 6) h1 h2 (bits-below-3 p 12) (bits-below-5 p 15) low_below high_below in
    let even : bits p 0 1 ≡ 0 = rw is fits.even in
    let number = j-number p (word_j code d p) even x.funct3 x.rs1 x.rs2 x.funct7 in
    record { has_opcode = x.opcode; has_rd = sym x.rd; has_imm = sym (ap (sign_extended 21) (number ∙ ap (λ (q : ℕ). bits q 0 21) is) ∙ signed-pattern_21 z fits.within) }

pub j-made : (code d : ℕ) (z : ℤ) → code < 128 → d < 32 → IsOffset 21 z → IsJ code d z (word_j code d (pattern z))
j-made code d z h1 h2 fits = j-made_from code d (pattern z) z refl h1 h2 fits

j-below : (w : ℕ) → bits w 31 1 * 2 ^ 20 + bits w 12 8 * 2 ^ 12 + bits w 20 1 * 2 ^ 11 + bits w 21 10 * 2 < 2 ^ 21
j-below w =
    let v0 = bits-below-3 w 12 in
    let v1 = bits-below-5 w 15 in
    let v2 = bits-below-1 w 20 in
    let v3 = bits-below-4 w 21 in
    let v4 = bits-below-6 w 25 in
    let v5 = bits-below-1 w 31 in
    let w0 = bits-join w 12 3 5 in
    let w1 = bits-join w 20 1 4 in
    let w2 = bits-join w 21 4 6 in
    let w3 = bits-join w 25 6 1 in
    omega arith

j-pattern : (code d : ℕ) (z : ℤ) (w : ℕ) → IsJ code d z w → bits w 31 1 * 2 ^ 20 + bits w 12 8 * 2 ^ 12 + bits w 20 1 * 2 ^ 11 + bits w 21 10 * 2 ≡ bits (pattern z) 0 21
j-pattern code d z w r = rw (r.has_imm) (sym (pattern-signed_21 (bits w 31 1 * 2 ^ 20 + bits w 12 8 * 2 ^ 12 + bits w 20 1 * 2 ^ 11 + bits w 21 10 * 2) (j-below w)))

pub j-makes : (code d : ℕ) (z : ℤ) (w : ℕ) → w < 2 ^ 32 → IsJ code d z w → word_j code d (pattern z) ≡ w
j-makes code d z w h r =
    let whole = word-fields w h in
    let number = j-pattern code d z w r in
    let e0 = j-place_0 (pattern z) w number in
    let e1 = j-place_1 (pattern z) w number in
    let e2 = j-place_2 (pattern z) w number in
    let e3 = j-place_3 (pattern z) w number in
    cc

pub j-fits : (code d : ℕ) (z : ℤ) (w : ℕ) → IsJ code d z w → IsOffset 21 z
j-fits code d z w r = record {
  within = rw (r.has_imm) (IsSigned-sign_extended_21 (bits w 31 1 * 2 ^ 20 + bits w 12 8 * 2 ^ 12 + bits w 20 1 * 2 ^ 11 + bits w 21 10 * 2) (j-below w));
  even = j-even (pattern z) w (j-pattern code d z w r);
}

-- ---- U

u-number : (p w : ℕ) → bits w 12 3 ≡ bits p 0 3 → bits w 15 5 ≡ bits p 3 5 → bits w 20 5 ≡ bits p 8 5 → bits w 25 7 ≡ bits p 13 7 → bits w 12 20 ≡ bits p 0 20
u-number p w e0 e1 e2 e3 =
    let w0 = bits-join w 12 3 17 in
    let w1 = bits-join w 15 5 12 in
    let w2 = bits-join w 20 5 7 in
    let p0 = bits-join p 0 3 17 in
    let p1 = bits-join p 3 5 12 in
    let p2 = bits-join p 8 5 7 in
    omega arith

-- the same fields of the same twenty bits
u-place : (p w : ℕ) → bits w 12 20 ≡ bits p 0 20 → (bits p 0 3 ≡ bits w 12 3) × (bits p 3 5 ≡ bits w 15 5) × (bits p 8 5 ≡ bits w 20 5) × (bits p 13 7 ≡ bits w 25 7)
u-place p w e =
    let w0 = bits-join w 12 3 17 in
    let w1 = bits-join w 15 5 12 in
    let w2 = bits-join w 20 5 7 in
    let p0 = bits-join p 0 3 17 in
    let p1 = bits-join p 3 5 12 in
    let p2 = bits-join p 8 5 7 in
    let v0 = bits-below-3 w 12 in
    let v1 = bits-below-5 w 15 in
    let v2 = bits-below-5 w 20 in
    let q0 = bits-below-3 p 0 in
    let q1 = bits-below-5 p 3 in
    let q2 = bits-below-5 p 8 in
    (omega arith, omega arith, omega arith, omega arith)

pub u-made : (code d imm : ℕ) → code < 128 → d < 32 → imm < 2 ^ 20 → IsU code d imm (word_u code d imm)
u-made code d imm h1 h2 h3 =
    let x = fields_of code d (bits imm 0 3) (bits imm 3 5) (bits imm 8 5) (bits imm 13 7) h1 h2 (bits-below-3 imm 0) (bits-below-5 imm 3) (bits-below-5 imm 8) (bits-below-7 imm 13) in
    let number = u-number imm (word_u code d imm) x.funct3 x.rs1 x.rs2 x.funct7 in
    record { has_opcode = x.opcode; has_rd = sym x.rd; has_imm = sym (number ∙ bits-small_20 imm h3) }

pub u-makes : (code d imm w : ℕ) → w < 2 ^ 32 → IsU code d imm w → word_u code d imm ≡ w
u-makes code d imm w h r =
    let whole = word-fields w h in
    let number : bits w 12 20 ≡ bits imm 0 20 = rw (r.has_imm) (sym (bits-small_20 (bits w 12 20) (bits-below-20 w 12))) in
    let places = u-place imm w number in
    cc

pub u-fits : (code d imm w : ℕ) → IsU code d imm w → imm < 2 ^ 20
u-fits code d imm w r = rw (r.has_imm) (bits-below-20 w 12)
