-- Numbers after a name, and what it means that some bytes begin with a written value.
use Rattle.std.specs.Prelude.{◌≡◌, ℕ, ◌≤◌, List, ◌++◌}
use Rattle.std.specs.Fmt.{decimal}

-- a number in decimal digits, without leading zeros, between a name and an end
unfoldable pub field : List ℕ → List ℕ → ℕ → List ℕ
field name end' number = name ++ decimal number ++ end'

-- a number from `least` to `most`
pub record IsFrom (least most n : ℕ) : Type 0 where
  pub low : least ≤ n
  pub high : n ≤ most

-- the bytes begin with what is written for the value x, and the rest follows
pub record Stands {X : Type 0} (Fits : X → Type 0) (write : X → List ℕ) (bytes : List ℕ) (x : X) (rest : List ℕ) : Type 0 where
  pub fits : Fits x
  pub parts : bytes ≡ write x ++ rest

-- the bytes begin with what is written for no value
abbrev pub NoneStands : {X : Type 0} → (X → Type 0) → (X → List ℕ) → List ℕ → Type 0
NoneStands {X} Fits write bytes = (x : X) (rest : List ℕ) → Stands Fits write bytes x rest → ⊥
