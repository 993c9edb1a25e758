use Rattle.run_chart.specs.Picture.{leaving_arrow}
use Rattle.run_chart.proofs.Each.{each-read}
use Rattle.run_chart.proofs.rows.push_leaving_arrows.Goals as goal

pub loop-mail-preserved : goal.loop-mail-preserved
loop-mail-preserved c =
    rw c.in_ok-push_leaving_arrow.ensures
    (each-read (leaving_arrow c.args.chart.now) c.loop-mail.out.items c.args.mails.now c.loop-mail.mail-index _ _ c.loop-mail-test.true c.loop-mail.invariant)
