use Rattle.std.proofs.Common.{take}
use Rattle.region_table.specs.Words.{has}
use Rattle.outcomes_top.specs.Marks.{AreMarkedFor}
use Rattle.outcomes_top.proofs.marks.mark_set.Given as goal

abbrev pub invariant-loop-interval : goal.invariant-loop-interval
invariant-loop-interval l = AreMarkedFor l.initial.marks l.marks l.core (has (take l.interval-index l.interval-items))
