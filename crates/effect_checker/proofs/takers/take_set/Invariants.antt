use Rattle.std.proofs.Common.{take}
use Rattle.region_table.specs.Words.{has}
use Rattle.effect_checker.specs.Takers.{AreTaken, KeepTakers}
use Rattle.effect_checker.proofs.takers.take_set.Given as goal

abbrev pub invariant-loop-interval : goal.invariant-loop-interval
invariant-loop-interval l = record {
  kept : KeepTakers l.initial.takers l.takers;
  taken : AreTaken (has (take l.interval-index l.interval-items)) l.fn.taker l.takers;
}
