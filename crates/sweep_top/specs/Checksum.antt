-- The checksum of a text: FNV-1a with 64 bits (Fowler, Noll and Vo), as sixteen hexadecimal digits.
use Rattle.std.specs.Prelude.{ℕ, ◌*◌, ◌/◌, ◌%◌, ◌^◌, bit_xor, List, [], ◌∷◌, ◌++◌, drop}
use Rattle.text_pieces.specs.Pieces.{hexadecimal}

-- the checksum goes on from here with these bytes: each is added by XOR, and then the product with the prime is taken modulo 2^64
abbrev pub hashed_from : ℕ → List ℕ → ℕ
hashed_from hash [] = hash
hashed_from hash (byte ∷ bytes) = hashed_from (bit_xor hash byte * 1099511628211 % 2 ^ 64) bytes

-- the checksum of these bytes, from the offset basis on
unfoldable pub checksum : List ℕ → ℕ
checksum bytes = hashed_from 14695981039346656037 bytes

-- a number of 64 bits in base 16: all its sixteen digits
unfoldable pub long_hexadecimal : ℕ → List ℕ
long_hexadecimal n = hexadecimal (n / 2 ^ 32) ++ drop 2 (hexadecimal (n % 2 ^ 32))
