use Rattle.run_chart.specs.Picture.{arrow}
use Rattle.run_chart.proofs.Each.{each-step}
use Rattle.run_chart.proofs.rows.push_arrows.Goals as goal

pub loop-row-preserved : goal.loop-row-preserved
loop-row-preserved c =
    rw c.in_ok-push_arrow.ensures
    (each-step (arrow c.args.chart.now) c.loop-row.out.items c.args.rows.now c.loop-row.row-index c.row-item.result _ c.loop-row-test.true c.row-item.is c.loop-row.invariant)
