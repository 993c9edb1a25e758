-- The code's table of statements.
use Rattle.std.specs.Prelude.{ℕ, Bool, ◌==◌, List, ◌++◌, slice_index, filter}
use denote.Ref.{Bor}
use Rattle.rv_assembler.specs.declared.kind.Piece.{Piece}
use Rattle.rv_assembler.specs.declared.kind.Kind.{Kind}
use Rattle.rv_assembler.specs.Shape.{Shape, memory_rows, operation_rows, short_rows, directive_rows, later_rows}

abbrev pub shape_of : Bor (List ℕ) × Bor (List Piece) × Kind × Bool → Shape
shape_of r = record { word = r.0.now; operands = r.1.now; kind = r.2; later = r.3 }

abbrev pub all_rows : List Shape
all_rows = memory_rows ++ (operation_rows ++ (short_rows ++ (directive_rows ++ later_rows)))

abbrev pub begins_with : ℕ → Shape → Bool
begins_with first s = slice_index s.word 0 == first

-- the rows of the words that begin with a byte
unfoldable pub rows_from : ℕ → List Shape
rows_from first = filter (begins_with first) all_rows
