-- The bytes of a line. And the origin of a code word once more, by the code of the lines before it.
use Rattle.std.specs.Prelude.{◌≡◌, ℕ, zero, suc, ◌+◌, ◌<◌, List, ◌∷◌, ◌++◌, length, Option, None, slice_get}
use Rattle.src_text.specs.Line.{cut}
use Rattle.rv_assembler.specs.declared.parsing.Saying.{Saying}
use Rattle.rv_assembler.specs.declared.names.Meaning.{Meaning}
use Rattle.rv_assembler.specs.Declarations.{meaning_of}
use Rattle.rv_assembler.specs.Tables.{placed_code, tables}
use Rattle.rv_assembler.specs.Source.{readings, sayings}
use Rattle.text_places.specs.declared.places.CodePlace.{CodePlace}

-- the line of this number, from 1
abbrev pub numbered_line : List ℕ → ℕ → Option (List ℕ)
numbered_line text zero = None
numbered_line text (suc n) = slice_get (cut text) n

-- `lines` consists of some lines, the line of the code word, and more lines. The lines before give `number - part` code words,
-- and the line itself more than `part`, so the code word with this number is one of its words
pub record IsLineAmong (text : List ℕ) (names : List ℕ → Option Meaning) (lines : List Saying) (number : ℕ) (place : CodePlace) : Type 0 where
  pub before : List Saying
  pub here : Saying
  pub behind : List Saying
  pub lines_are : lines ≡ before ++ here ∷ behind
  pub named : here.line ≡ place.line
  pub earlier : number ≡ length (tables text names before).code + place.part
  pub own : place.part < length (placed_code text names (record { before = before; here = here }))

abbrev pub IsLineOfCode : List ℕ → ℕ → CodePlace → Type 0
IsLineOfCode text number place = let ss = sayings (readings text) in IsLineAmong text (meaning_of text ss) ss number place
