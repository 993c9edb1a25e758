use Rattle.std.proofs.Common.{◌≡◌, ◌++◌, drop, filter}
use Rattle.run_chart.specs.Keeping.{is_of_marked}
use Rattle.run_chart.proofs.keeping.marked_changes.Given as goal

abbrev pub invariant-loop-change : goal.invariant-loop-change
invariant-loop-change l = l.marked ++ filter (is_of_marked l.marks) (drop l.change-index l.changes) ≡ filter (is_of_marked l.marks) l.changes
