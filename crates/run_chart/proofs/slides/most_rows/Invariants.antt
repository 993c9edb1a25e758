use Rattle.std.proofs.Common.{◌≡◌, ◌-◌}
use Rattle.run_chart.specs.Slides.{most_rows}
use Rattle.run_chart.proofs.slides.most_rows.Given as goal

abbrev pub invariant-loop-fewer : goal.invariant-loop-fewer
invariant-loop-fewer l = most_rows l.keeping l.chart (31 - l.fewer) ≡ most_rows l.keeping l.chart 31
