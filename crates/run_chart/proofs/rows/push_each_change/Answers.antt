use Rattle.run_chart.specs.Picture.{change_words}
use Rattle.run_chart.proofs.Each.{each-read}
use Rattle.run_chart.proofs.rows.push_each_change.Goals as goal

pub loop-change-preserved : goal.loop-change-preserved
loop-change-preserved c =
    rw c.in_ok-push_change.ensures
    (each-read (change_words c.args.text.now c.args.x) c.loop-change.out.items c.args.changes.now c.loop-change.change-index _ _ c.loop-change-test.true c.loop-change.invariant)
