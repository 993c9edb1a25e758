use Rattle.std.proofs.Common.{◌≡◌, drop}
use Rattle.run_chart.specs.Keeping.{event_on_line}
use Rattle.run_chart.proofs.keeping.event_on_line.Given as goal

abbrev pub invariant-loop-row : goal.invariant-loop-row
invariant-loop-row l = event_on_line l.line (drop l.row-index l.rows) ≡ event_on_line l.line l.rows
