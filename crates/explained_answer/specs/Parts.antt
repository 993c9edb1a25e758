-- Numbers that follow one another in a line.
use Rattle.std.specs.Prelude.{◌≡◌, ℕ, List, [], ◌∷◌, ◌++◌}
use Rattle.std.specs.Fmt.{decimal}
use Rattle.text_pieces.specs.Pieces.{newline, space, hexadecimal}
use Rattle.text_pieces.specs.Field.{field, IsFrom}

-- numbers are below 2^32
abbrev pub IsNumber : ℕ → Type 0
IsNumber n = IsFrom 0 4294967295 n

-- two numbers, each after a name: a blank ends the first, and the byte `stop` the second
unfoldable pub pair_fields : List ℕ → List ℕ → ℕ → ℕ → ℕ → List ℕ
pair_fields first second stop a b = field first space a ++ field second (stop ∷ []) b

-- the bytes begin with two such numbers, and the rest follows
pub record StandPair (first second : List ℕ) (stop : ℕ) (bytes : List ℕ) (a b : ℕ) (rest : List ℕ) : Type 0 where
  pub first_from : IsNumber a
  pub second_from : IsNumber b
  pub parts : bytes ≡ pair_fields first second stop a b ++ rest

-- a run takes at most 7,000,000 ticks for each of at most 25,169,664 events: 1,000,000 for itself, and 1,000,000 for each of at most 6
-- hops of its message
abbrev pub IsTicks : ℕ → Type 0
IsTicks n = IsFrom 0 176187648000000 n

-- a line of three numbers after a name
unfoldable pub three_line : List ℕ → ℕ → ℕ → ℕ → List ℕ
three_line name a b c = name ++ decimal a ++ space ++ decimal b ++ space ++ decimal c ++ newline

pub record StandThree (name bytes : List ℕ) (a b c : ℕ) (rest : List ℕ) : Type 0 where
  pub first_from : IsNumber a
  pub second_from : IsNumber b
  pub third_from : IsNumber c
  pub parts : bytes ≡ three_line name a b c ++ rest

-- a number in base 16 at the end of a line
unfoldable pub hexadecimal_line : ℕ → List ℕ
hexadecimal_line n = hexadecimal n ++ newline
