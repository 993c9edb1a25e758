use Rattle.std.proofs.Common.{◌≡◌, ◌++◌, drop, None}
use Rattle.run_chart.specs.Picture.{bands}
use Rattle.run_chart.proofs.head.push_bands.Given as goal

abbrev pub invariant-loop-row : goal.invariant-loop-row
invariant-loop-row l = l.out.items ++ bands l.chart l.before (drop l.row-index l.rows) ≡ l.fn.out.items ++ bands l.chart None l.rows
