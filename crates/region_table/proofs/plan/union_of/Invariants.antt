use Rattle.std.proofs.Common.{◌≡◌, ℕ, ◌||◌, List, take}
use Rattle.std.specs.List.{list_any}
use Rattle.region_table.specs.declared.interval.Interval.{Interval}
use Rattle.region_table.specs.Words.{has}
use Rattle.region_table.proofs.plan.union_of.Given as goal

abbrev pub invariant-loop-set : goal.invariant-loop-set
invariant-loop-set l =
    (w : ℕ) → has l.all w ≡ (has l.initial.all w || list_any (λ (set : List Interval). has set w) (take l.set-index l.sets))
