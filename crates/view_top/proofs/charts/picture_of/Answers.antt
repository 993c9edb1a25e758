use Rattle.std.proofs.Common.{◌≡◌, IfOk, subst}
use Rattle.run_chart.specs.declared.parts.Chart.{Chart}
use Rattle.run_chart.specs.Picture.{svg_of}
use Rattle.view_top.proofs.Pictures.{kept-is}
use Rattle.view_top.proofs.charts.picture_of.Goals as goal

pub returns : goal.returns
returns c =
    subst (λ (x : Chart). IfOk c.chart_text.result (λ picture. picture.items ≡ svg_of x c.args.text.now))
    (kept-is c.args.options.now c.args.text.now c.args.chart.now c.in_ok-kept.kept c.in_ok-named.named c.in_ok-keeping.keeping c.columns_on-columns.result c.as_slice-words.result.now c.as_slice-actors.result.now c.as_slice-words.ensures c.as_slice-actors.ensures
    c.in_ok-named.ensures c.in_ok-keeping.ensures c.columns_on-columns.ensures c.in_ok-kept.ensures)
    c.chart_text.ensures
