-- Parts of documents: a source text after its number of bytes, and a row of lines of one form.
use Rattle.std.specs.Prelude.{◌≡◌, ℕ, ◌<◌, ◌≤◌, All, List, ◌++◌, codes, flat_map, length}
use Rattle.dn_base.specs.declared.limits.TheConstants.{MOST_OF_TEXT}
use Rattle.text_pieces.specs.Pieces.{newline}
use Rattle.text_pieces.specs.Field.{field, NoneStands}

-- a source text has at most 1,048,576 bytes
abbrev pub IsSource : List ℕ → Type 0
IsSource text = length text ≤ MOST_OF_TEXT

-- the line with the number of bytes of the text, the text, and a newline
unfoldable pub source_part : List ℕ → List ℕ
source_part text = field (codes "source ") newline (length text) ++ text ++ newline

-- the bytes begin with what is written for these values, one after the other, and the rest follows
pub record StandAll {X : Type 0} (Fits : X → Type 0) (write : X → List ℕ) (bytes : List ℕ) (xs : List X) (rest : List ℕ) : Type 0 where
  pub fits : All Fits xs
  pub parts : bytes ≡ flat_map write xs ++ rest

-- `count` values should be written at the start of the bytes. The one with this number, from 0, is the first that isn't there,
-- and the bytes from its place on are `rest`
pub record IsBrokenAt {X : Type 0} (Fits : X → Type 0) (write : X → List ℕ) (bytes : List ℕ) (count number : ℕ) (rest : List ℕ) : Type 0 where
  pub before : List X
  pub stand : StandAll Fits write bytes before rest
  pub place : length before ≡ number
  pub announced : number < count
  pub none : NoneStands Fits write rest
