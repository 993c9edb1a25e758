use Rattle.std.proofs.Common.{◌≡◌, map, drop}
use Rattle.rv_assembler.specs.Shape.{kind_in_rows}
use Rattle.rv_assembler.specs.ShapeRow.{shape_of}
use Rattle.rv_assembler.proofs.shape.kind_in.Given as goal

abbrev pub invariant-loop-row : goal.invariant-loop-row
invariant-loop-row l =
    kind_in_rows l.version_2 l.text l.word l.operands (map shape_of (drop l.row-index l.rows)) ≡ kind_in_rows l.version_2 l.text l.word l.operands (map shape_of l.rows)
