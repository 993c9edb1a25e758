use Rattle.run_chart.proofs.Kept.{slide-is}
use Rattle.run_chart.proofs.slides.slide_of.Goals as goal

pub returns : goal.returns
returns c =
    slide-is c.args.keeping.now c.args.chart.now c.as_slice.result.now c.as_slice-2.result.now c.in_ok-placed.placed c.in_ok-placed.line c.new.result c.chart_with.result
    c.as_slice.ensures c.as_slice-2.ensures c.in_ok-placed.ensures.rows c.in_ok-placed.ensures.line c.new.ensures c.chart_with.ensures
