-- The line that a part of a program comes from, by the tables of the language's definition.
use Rattle.std.specs.Prelude.{◌≡◌, ℕ, ◌+◌, List, ◌∷◌, ◌++◌, length, flat_map, Some, slice_get}
use Rattle.rv_assembler.specs.declared.parsing.Saying.{Saying}
use Rattle.rv_assembler.specs.Placed.{Placed, placed}

-- `lines` consists of some lines, the line of the row, and more lines. The rows that the lines before give, and those of the line itself
-- before this one, are as many as the row's number says; and `p` is the origin that is made of the line's number, the row's number
-- among the line's rows, and the row
pub record IsRowOfLine {Row Place : Type 0} (rows_at : Placed Saying → List Row) (origin : ℕ → ℕ → Row → Place) (lines : List Saying) (number : ℕ) (p : Place) : Type 0 where
  pub before : List Saying
  pub here : Saying
  pub behind : List Saying
  pub lines_are : lines ≡ before ++ here ∷ behind
  pub part : ℕ
  pub row : Row
  pub given : slice_get (rows_at (record { before = before; here = here })) part ≡ Some row
  pub counted : number ≡ length (flat_map rows_at (placed before)) + part
  pub is : p ≡ origin here.line part row
