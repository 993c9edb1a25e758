-- A write signature: a Bloom filter of 256 bits for the words that were written under a lock in one phase.
use Rattle.std.specs.Prelude.{ℕ, ◌-◌, ◌*◌, ◌/◌, ◌%◌, ◌^◌, Bool, ◌&&◌, ◌==◌, nat_lt, if◌then◌else◌, bit_or}
use Rattle.std.specs.Int.{bit_at}
use Rattle.write_signature.specs.declared.signature.Signature.{Signature}

-- the two hash functions: which bits stand for a word
abbrev pub h1 : ℕ → ℕ
h1 w = w % 256

abbrev pub h2 : ℕ → ℕ
h2 w = w * 2654435769 % 2 ^ 32 / 2 ^ 24

-- the phase whose writes a signature has
abbrev pub tag : Signature → ℕ
tag s = s.phase.0

-- whether bit i is set: bits 0 to 127 stand in the low half, the others in the high half
abbrev pub has_bit : Signature → ℕ → Bool
has_bit s i = if nat_lt i 128 then bit_at s.low i == 1 else bit_at s.high (i - 128) == 1

-- whether two signatures have the same bits and are of the same phase
abbrev pub same_signature : Signature → Signature → Bool
same_signature a b = (a.low == b.low) && ((a.high == b.high) && (tag a == tag b))

-- bit i is set, and the others stay
abbrev pub with_bit : ℕ → Signature → Signature
with_bit i s =
    if nat_lt i 128 then record { low = bit_or s.low (2 ^ i); high = s.high; phase = s.phase }
    else record { low = s.low; high = bit_or s.high (2 ^ (i - 128)); phase = s.phase }

-- no bit is set
unfoldable pub empty : ℕ → Signature
empty p = record { low = 0; high = 0; phase = record { 0 = p } }

-- the signature before a write in phase p: itself if it is of phase p, else the empty one
abbrev pub in_phase : ℕ → Signature → Signature
in_phase p s = if tag s == p then s else empty p

-- whether word w may have been written in phase p: both of its bits are set
unfoldable pub may_hold : Signature → ℕ → ℕ → Bool
may_hold s w p = (tag s == p) && has_bit s (h1 w) && has_bit s (h2 w)

-- word w was written in phase p
unfoldable pub inserted : Signature → ℕ → ℕ → Signature
inserted s w p = with_bit (h2 w) (with_bit (h1 w) (in_phase p s))

-- the bits of both, if they are of the same phase; otherwise the one of the later phase
unfoldable pub joined : Signature → Signature → Signature
joined a b =
    if tag a == tag b then record { low = bit_or a.low b.low; high = bit_or a.high b.high; phase = a.phase }
    else if nat_lt (tag a) (tag b) then b else a
