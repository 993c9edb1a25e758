use Rattle.std.proofs.Common.{take}
use Rattle.std.specs.List.{All}
use Rattle.region_table.proofs.NumberLemmas.{AreOfWords}
use Rattle.region_table.proofs.numbers.phases_fit.Given as goal

abbrev pub invariant-loop-phase : goal.invariant-loop-phase
invariant-loop-phase l = All AreOfWords (take l.phase-index l.phases)
