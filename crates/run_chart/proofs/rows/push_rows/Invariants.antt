use Rattle.std.proofs.Common.{◌≡◌, ◌++◌, drop, flat_map}
use Rattle.run_chart.specs.Picture.{row_words}
use Rattle.run_chart.proofs.rows.push_rows.Given as goal

abbrev pub invariant-loop-row : goal.invariant-loop-row
invariant-loop-row l = l.out.items ++ flat_map (row_words l.chart l.text) (drop l.row-index l.rows) ≡ l.fn.out.items ++ flat_map (row_words l.chart l.text) l.rows
