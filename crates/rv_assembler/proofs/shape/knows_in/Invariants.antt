use Rattle.std.proofs.Common.{◌≡◌, map, drop}
use Rattle.rv_assembler.specs.Shape.{knows}
use Rattle.rv_assembler.specs.ShapeRow.{shape_of}
use Rattle.rv_assembler.proofs.shape.knows_in.Given as goal

abbrev pub invariant-loop-row : goal.invariant-loop-row
invariant-loop-row l = knows l.version_2 l.word (map shape_of (drop l.row-index l.rows)) ≡ knows l.version_2 l.word (map shape_of l.rows)
