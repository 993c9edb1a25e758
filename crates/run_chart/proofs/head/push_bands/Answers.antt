use Rattle.run_chart.proofs.Bands.{bands-step}
use Rattle.run_chart.proofs.head.push_bands.Goals as goal

pub loop-row-preserved : goal.loop-row-preserved
loop-row-preserved c =
    rw c.in_ok-push_band_row.ensures
    (bands-step c.args.chart.now c.loop-row.before c.loop-row.out.items c.args.rows.now c.loop-row.row-index c.row-item.result _ c.loop-row-test.true c.row-item.is c.loop-row.invariant)
