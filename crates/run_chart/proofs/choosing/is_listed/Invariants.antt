use Rattle.std.proofs.Common.{◌≡◌, drop}
use Rattle.run_chart.specs.Choosing.{follows}
use Rattle.run_chart.proofs.choosing.is_listed.Given as goal

abbrev pub invariant-loop-place : goal.invariant-loop-place
invariant-loop-place l = follows l.name (drop l.place l.list) ≡ follows l.name l.list
