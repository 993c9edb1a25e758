use Rattle.std.proofs.Common.{take, List}
use Rattle.std.specs.List.{list_any}
use Rattle.region_table.specs.declared.interval.Interval.{Interval}
use Rattle.region_table.specs.Words.{has}
use Rattle.outcomes_top.specs.Marks.{AreMarkedFor}
use Rattle.outcomes_top.proofs.marks.mark_sets.Given as goal

abbrev pub invariant-loop-set : goal.invariant-loop-set
invariant-loop-set l = AreMarkedFor l.initial.marks l.marks l.core (λ w. list_any (λ (set : List Interval). has set w) (take l.set-index l.sets))
