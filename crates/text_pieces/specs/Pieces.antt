-- The pieces of which printed texts are made.
use Rattle.std.specs.Prelude.{ℕ, ◌+◌, ◌/◌, ◌%◌, ◌^◌, nat_lt, List, [], ◌∷◌, if◌then◌else◌}

-- the end of a line
abbrev pub newline : List ℕ
newline = 10 ∷ []

abbrev pub space : List ℕ
space = 32 ∷ []

-- a digit of base 16, in lower case
abbrev pub hex_digit : ℕ → ℕ
hex_digit d = if nat_lt d 10 then 48 + d else 87 + d

-- the digit of base 16 with this index in a number, counted from the last digit
abbrev pub hex_at : ℕ → ℕ → ℕ
hex_at n place = hex_digit (n / 16 ^ place % 16)

-- a number of 32 bits in base 16: all its eight digits
unfoldable pub hexadecimal : ℕ → List ℕ
hexadecimal n =
    48 ∷ 120 ∷ hex_at n 7 ∷ hex_at n 6 ∷ hex_at n 5 ∷ hex_at n 4 ∷ hex_at n 3 ∷ hex_at n 2 ∷ hex_at n 1 ∷ hex_at n 0 ∷ []
