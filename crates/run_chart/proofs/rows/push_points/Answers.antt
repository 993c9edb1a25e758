use Rattle.run_chart.specs.Picture.{point}
use Rattle.run_chart.proofs.Each.{each-step}
use Rattle.run_chart.proofs.rows.push_points.Goals as goal

pub loop-row-preserved : goal.loop-row-preserved
loop-row-preserved c =
    rw c.in_ok-push_point.ensures
    (each-step (point c.args.chart.now) c.loop-row.out.items c.args.rows.now c.loop-row.row-index c.row-item.result _ c.loop-row-test.true c.row-item.is c.loop-row.invariant)
