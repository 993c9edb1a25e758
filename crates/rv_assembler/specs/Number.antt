-- Numbers of statements, and their ranges.
use Rattle.std.specs.Prelude.{ℕ, ◌-◌, ◌%◌, ◌^◌, ℤ, pos, negsuc, neg_ℤ, int_le, int_lt, Bool, ◌&&◌, ◌==◌, if◌then◌else◌}
use Rattle.rv_isa.specs.Word.{bits, pattern}
use Rattle.rv_isa.specs.Table.{is_shift, has_immediate}
use Rattle.rv_isa.specs.declared.instr.AluOp.{AluOp}

-- a number modulo 2^32
abbrev pub wrapped : ℤ → ℕ
wrapped (pos n) = n % 2 ^ 32
wrapped (negsuc n) = 2 ^ 32 - 1 - n % 2 ^ 32

-- a number that isn't below 0, as a count
abbrev pub natural_of : ℤ → ℕ
natural_of (pos n) = n
natural_of (negsuc n) = 0

abbrev pub is_within : ℤ → ℤ → ℤ → Bool
is_within low below z = int_le low z && int_lt z below

-- bit 0 is 0: an offset's encoding leaves it out
abbrev pub is_even : ℤ → Bool
is_even z = bits (pattern z) 0 1 == 0

-- the number of LUI and AUIPC, for bits 31 to 12
abbrev pub is_upper : ℤ → Bool
is_upper z = is_within (pos 0) (pos 0x100000) z

-- the immediates of the I and S formats
abbrev pub is_immediate : ℤ → Bool
is_immediate z = is_within (neg_ℤ (pos 2048)) (pos 2048) z

-- the offset of JAL
abbrev pub is_jump : ℤ → Bool
is_jump z = is_within (neg_ℤ (pos 0x100000)) (pos 0x100000) z && is_even z

-- the offset of a branch
abbrev pub is_branch : ℤ → Bool
is_branch z = is_within (neg_ℤ (pos 4096)) (pos 4096) z && is_even z

-- the immediate of an operation: a shift has an amount from 0 to 31
abbrev pub is_operand : AluOp → ℤ → Bool
is_operand op z = has_immediate op && (if is_shift op then is_within (pos 0) (pos 32) z else is_immediate z)

-- how many words a region may have
abbrev pub is_length : ℤ → Bool
is_length z = int_le (pos 1) z && int_le z (pos 65536)

-- the words from `lo` to before `hi` are some words of a region of `len` words
abbrev pub is_interval : ℤ → ℤ → ℤ → Bool
is_interval lo hi len = int_le (pos 0) lo && int_lt lo hi && int_le hi len
