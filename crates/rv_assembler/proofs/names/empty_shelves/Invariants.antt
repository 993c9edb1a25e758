use Rattle.std.specs.List.{All}
use Rattle.std.specs.BTreeMap.{IsEmpty}
use Rattle.rv_assembler.proofs.names.empty_shelves.Given as goal

abbrev pub invariant-loop-shelf : goal.invariant-loop-shelf
invariant-loop-shelf l = All IsEmpty l.shelves
