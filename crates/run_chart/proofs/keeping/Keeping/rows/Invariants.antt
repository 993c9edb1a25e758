use Rattle.std.proofs.Common.{◌≡◌, ◌++◌, drop}
use Rattle.run_chart.specs.Keeping.{line_after, rows_from}
use Rattle.run_chart.proofs.keeping.Keeping.rows.Given as goal

abbrev pub invariant-loop-row : goal.invariant-loop-row
invariant-loop-row l =
    record {
      rows : l.kept ++ rows_from l.self l.shape l.line (drop l.row-index l.rows) ≡ rows_from l.self l.shape 0 l.rows;
      line : line_after l.self l.shape l.line (drop l.row-index l.rows) ≡ line_after l.self l.shape 0 l.rows;
    }
