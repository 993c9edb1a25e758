use Rattle.std.proofs.Common.{◌≡◌, ◌++◌, drop, flat_map}
use Rattle.run_chart.specs.Picture.{point}
use Rattle.run_chart.proofs.rows.push_points.Given as goal

abbrev pub invariant-loop-row : goal.invariant-loop-row
invariant-loop-row l = l.out.items ++ flat_map (point l.chart) (drop l.row-index l.rows) ≡ l.fn.out.items ++ flat_map (point l.chart) l.rows
