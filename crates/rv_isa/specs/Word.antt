-- Words of 32 bits, and the immediates that they hold ("Immediate Encoding Variants" in the RISC-V unprivileged manual).
use Rattle.std.specs.Prelude.{ℕ, ◌+◌, ◌-◌, ◌*◌, ◌/◌, ◌%◌, ◌^◌, ℤ, pos, ◌-ℤ◌, nat_lt, if◌then◌else◌}
use Rattle.std.specs.Int.{w32, cast_unsigned}

-- the n bits of w from bit lo upward
unfoldable pub bits : ℕ → ℕ → ℕ → ℕ
bits w lo n = w / 2 ^ lo % 2 ^ n

-- the 32 bits that stand for z in two's complement
abbrev pub pattern : ℤ → ℕ
pattern z = cast_unsigned w32 z

-- the number that n bits u stand for in two's complement: bit n - 1 is their sign
unfoldable pub sign_extended : ℕ → ℕ → ℤ
sign_extended n u = if nat_lt u (2 ^ (n - 1)) then pos u else (pos u -ℤ pos (2 ^ n))

-- imm[11:0] is bits 31 to 20
abbrev pub imm_i : ℕ → ℤ
imm_i w = sign_extended 12 (bits w 20 12)

-- imm[11:5] is bits 31 to 25, and imm[4:0] bits 11 to 7
abbrev pub imm_s : ℕ → ℤ
imm_s w = sign_extended 12 (bits w 25 7 * 2 ^ 5 + bits w 7 5)

-- imm[12] is bit 31, imm[11] bit 7, imm[10:5] bits 30 to 25, imm[4:1] bits 11 to 8, and imm[0] is 0
abbrev pub imm_b : ℕ → ℤ
imm_b w = sign_extended 13 (bits w 31 1 * 2 ^ 12 + bits w 7 1 * 2 ^ 11 + bits w 25 6 * 2 ^ 5 + bits w 8 4 * 2)

-- the 20-bit number that stands for imm[31:12] is bits 31 to 12
abbrev pub imm_u : ℕ → ℕ
imm_u w = bits w 12 20

-- imm[20] is bit 31, imm[19:12] bits 19 to 12, imm[11] bit 20, imm[10:1] bits 30 to 21, and imm[0] is 0
abbrev pub imm_j : ℕ → ℤ
imm_j w = sign_extended 21 (bits w 31 1 * 2 ^ 20 + bits w 12 8 * 2 ^ 12 + bits w 20 1 * 2 ^ 11 + bits w 21 10 * 2)
