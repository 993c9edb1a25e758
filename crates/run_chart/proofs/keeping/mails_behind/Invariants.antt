use Rattle.std.proofs.Common.{◌≡◌, ◌++◌, drop}
use Rattle.run_chart.specs.Keeping.{mails_behind}
use Rattle.run_chart.proofs.keeping.mails_behind.Given as goal

abbrev pub invariant-loop-row : goal.invariant-loop-row
invariant-loop-row l = l.mails ++ mails_behind l.window (drop l.row-index l.rows) ≡ mails_behind l.window l.rows
