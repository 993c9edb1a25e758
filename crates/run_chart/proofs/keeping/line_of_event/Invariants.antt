use Rattle.std.proofs.Common.{◌≡◌, drop}
use Rattle.run_chart.specs.Arrows.{line_of_event}
use Rattle.run_chart.proofs.keeping.line_of_event.Given as goal

abbrev pub invariant-loop-row : goal.invariant-loop-row
invariant-loop-row l = line_of_event l.event (drop l.row-index l.rows) ≡ line_of_event l.event l.rows
