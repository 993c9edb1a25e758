use Rattle.run_chart.proofs.Kept.{kept-is}
use Rattle.run_chart.proofs.keeping.kept_chart.Goals as goal

pub returns : goal.returns
returns c =
    kept-is c.args.keeping.now c.args.columns c.args.fit c.args.text.now c.args.chart.now c.as_slice.result.now c.in_ok-placed.placed c.as_slice-2.result.now c.as_slice-3.result.now
    c.in_ok-placed.line c.in_ok-note.note c.chart_with.result c.as_slice.ensures c.as_slice-2.ensures c.as_slice-3.ensures c.in_ok-placed.ensures.rows c.in_ok-placed.ensures.line c.in_ok-note.ensures c.chart_with.ensures
