use Rattle.std.proofs.Common.{◌≡◌, ◌++◌, drop, map}
use Rattle.run_chart.specs.Keeping.{with_origin, with_origins}
use Rattle.run_chart.proofs.keeping.with_origins.Given as goal

abbrev pub invariant-loop-row : goal.invariant-loop-row
invariant-loop-row l = l.rows ++ map (with_origin l.whole l.kept) (drop l.row-index l.kept) ≡ with_origins l.whole l.kept
