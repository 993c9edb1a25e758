-- Addresses: which code word and which data word stands at an address, and how the bytes of a word are used.
use Rattle.std.specs.Prelude.{ℕ, ◌+◌, ◌-◌, ◌/◌, ◌%◌, Bool, true, false, ◌&&◌, nat_le, nat_lt, ◌==◌, List, slice_get, slice_index, slice_set, Option, Some, None, if◌then◌else◌, [], ◌∷◌}
use Rattle.std.specs.Int.{w8, w16, w32, cast_signed, cast_unsigned, to_le_bytes, from_le_bytes}
use Rattle.rv_isa.specs.declared.instr.Width.{Width}
use Rattle.rv_isa.specs.declared.instr.Width as width

-- code word i stands at the address 0x1000 + 4i
abbrev pub code_at : List ℕ → ℕ → Option ℕ
code_at code pc = if nat_le 0x1000 pc && pc % 4 == 0 then slice_get code ((pc - 0x1000) / 4) else None

-- data word w of a memory of `words` words stands at the addresses 0x10000000 + 4w and the three after it
abbrev pub data_at : ℕ → ℕ → Option ℕ
data_at words address =
    if nat_le 0x10000000 address && nat_lt ((address - 0x10000000) / 4) words then Some ((address - 0x10000000) / 4) else None

-- how many bytes a load or store moves
abbrev pub size_of : Width → ℕ
size_of width.TheVariants.B = 1
size_of width.TheVariants.H = 2
size_of width.TheVariants.W = 4
size_of width.TheVariants.Bu = 1
size_of width.TheVariants.Hu = 2

-- whether a store gives all four bytes of its word
abbrev pub is_whole : Width → Bool
is_whole width.TheVariants.B = false
is_whole width.TheVariants.H = false
is_whole width.TheVariants.W = true
is_whole width.TheVariants.Bu = false
is_whole width.TheVariants.Hu = false

-- a byte of a word, and the two bytes from one on; memory is little-endian
abbrev pub byte_at : ℕ → ℕ → ℕ
byte_at word lane = slice_index (to_le_bytes w32 word) lane

abbrev pub half_at : ℕ → ℕ → ℕ
half_at word lane = from_le_bytes w16 (byte_at word lane ∷ byte_at word (lane + 1) ∷ [])

-- the register after a load from these bytes of a word: shorter loads are sign-extended or zero-extended
abbrev pub extended : Width → ℕ → ℕ → ℕ
extended width.TheVariants.B word lane = cast_unsigned w32 (cast_signed w8 (byte_at word lane))
extended width.TheVariants.H word lane = cast_unsigned w32 (cast_signed w16 (half_at word lane))
extended width.TheVariants.W word lane = word
extended width.TheVariants.Bu word lane = byte_at word lane
extended width.TheVariants.Hu word lane = half_at word lane

-- the word after a store of the low bytes of a value
abbrev pub replaced : Width → ℕ → ℕ → ℕ → ℕ
replaced width.TheVariants.B word lane value =
    from_le_bytes w32 (slice_set (to_le_bytes w32 word) lane (byte_at value 0))
replaced width.TheVariants.H word lane value =
    from_le_bytes w32 (slice_set (slice_set (to_le_bytes w32 word) lane (byte_at value 0)) (lane + 1) (byte_at value 1))
replaced width.TheVariants.W word lane value = value
replaced width.TheVariants.Bu word lane value = word
replaced width.TheVariants.Hu word lane value = word
