use Rattle.std.proofs.Common.{◌≡◌, ◌++◌, drop, flat_map}
use Rattle.run_chart.specs.Picture.{arrow}
use Rattle.run_chart.proofs.rows.push_arrows.Given as goal

abbrev pub invariant-loop-row : goal.invariant-loop-row
invariant-loop-row l = l.out.items ++ flat_map (arrow l.chart) (drop l.row-index l.rows) ≡ l.fn.out.items ++ flat_map (arrow l.chart) l.rows
