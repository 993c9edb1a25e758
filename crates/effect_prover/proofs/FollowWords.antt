-- Values that are loaded, and words after a store, are numbers of 32 bits.
use Rattle.std.proofs.Common.{ℕ, zero, suc, ◌+◌, ◌^◌, ◌<◌, List, [], ◌∷◌, slice_index, slice_set, arith}
use Rattle.std.proofs.lemmas.Int.{ints}
use Rattle.std.specs.Int.{w8, w16, w32, cast_signed, cast_unsigned, to_le_bytes, from_le_bytes}
use Rattle.region_table.specs.Numbers.{AreCodeWords}
use Rattle.rv_isa.specs.declared.instr.Width.{Width}
use Rattle.rv_isa.specs.declared.instr.Width as width
use Rattle.rv_core.specs.Address.{byte_at, half_at, extended, replaced}
use Rattle.effect_prover.specs.Range.{Has}
use Rattle.effect_prover.specs.Successors.{loadable}
use Rattle.effect_prover.proofs.RangeLemmas.{every-has}

-- each number of the list, and 0 behind its end, is below a bound
abbrev pub AreBelow : ℕ → List ℕ → Type 0
AreBelow bound xs = (i : ℕ) → slice_index xs i < bound

pub set-below : (bound : ℕ) (xs : List ℕ) (k x : ℕ) → AreBelow bound xs → x < bound → AreBelow bound (slice_set xs k x)
set-below bound [] k x h s i = h i
set-below bound (y ∷ xs) zero x h s zero = s
set-below bound (y ∷ xs) zero x h s (suc i) = h (suc i)
set-below bound (y ∷ xs) (suc k) x h s zero = h 0
set-below bound (y ∷ xs) (suc k) x h s (suc i) = set-below bound xs k x (λ j. h (suc j)) s i

pub words-below : (ws : List ℕ) → AreCodeWords ws → AreBelow (2 ^ 32) ws
words-below [] h i = omega arith
words-below (w ∷ ws) h zero = h.0
words-below (w ∷ ws) h (suc i) = words-below ws h.1 i

-- ---- bytes

bytes-below : (word : ℕ) → AreBelow 256 (to_le_bytes w32 word)
bytes-below word zero = omega arith
bytes-below word (suc zero) = omega arith
bytes-below word (suc (suc zero)) = omega arith
bytes-below word (suc (suc (suc zero))) = omega arith
bytes-below word (suc (suc (suc (suc i)))) = omega arith

half-below : (word lane : ℕ) → half_at word lane < 65536
half-below word lane =
    let low : byte_at word lane < 256 = bytes-below word lane in
    let high : byte_at word (lane + 1) < 256 = bytes-below word (lane + 1) in
    omega arith

whole-below : (bs : List ℕ) → AreBelow 256 bs → from_le_bytes w32 bs < 2 ^ 32
whole-below bs h =
    let a = h 0 in
    let b = h 1 in
    let c = h 2 in
    let d = h 3 in
    omega arith

signed-byte : (n : ℕ) → n < 256 → cast_unsigned w32 (cast_signed w8 n) < 2 ^ 32
signed-byte n h = omega (arith, ints)

signed-half : (n : ℕ) → n < 65536 → cast_unsigned w32 (cast_signed w16 n) < 2 ^ 32
signed-half n h = omega (arith, ints)

-- ---- loads and stores

-- a load puts into its register what the table says
pub extended-has : (w : Width) (word lane : ℕ) → word < 2 ^ 32 → Has (loadable w) (extended w word lane)
extended-has width.TheVariants.B word lane h =
    every-has (extended width.TheVariants.B word lane) (signed-byte (byte_at word lane) (bytes-below word lane))
extended-has width.TheVariants.H word lane h =
    every-has (extended width.TheVariants.H word lane) (signed-half (half_at word lane) (half-below word lane))
extended-has width.TheVariants.W word lane h = every-has word h
extended-has width.TheVariants.Bu word lane h =
    let small : byte_at word lane < 256 = bytes-below word lane in record { low = omega arith; high = omega arith }
extended-has width.TheVariants.Hu word lane h =
    let small = half-below word lane in record { low = omega arith; high = omega arith }

pub replaced-small : (w : Width) (word lane value : ℕ) → word < 2 ^ 32 → value < 2 ^ 32 → replaced w word lane value < 2 ^ 32
replaced-small width.TheVariants.B word lane value h k =
    whole-below (slice_set (to_le_bytes w32 word) lane (byte_at value 0))
    (set-below 256 (to_le_bytes w32 word) lane (byte_at value 0) (bytes-below word) (bytes-below value 0))
replaced-small width.TheVariants.H word lane value h k =
    let first = slice_set (to_le_bytes w32 word) lane (byte_at value 0) in
    whole-below (slice_set first (lane + 1) (byte_at value 1))
    (set-below 256 first (lane + 1) (byte_at value 1)
    (set-below 256 (to_le_bytes w32 word) lane (byte_at value 0) (bytes-below word) (bytes-below value 0)) (bytes-below value 1))
replaced-small width.TheVariants.W word lane value h k = k
replaced-small width.TheVariants.Bu word lane value h k = h
replaced-small width.TheVariants.Hu word lane value h k = h
