use Rattle.run_chart.specs.Picture.{leaving_words}
use Rattle.run_chart.proofs.Each.{each-read}
use Rattle.run_chart.proofs.rows.push_leaving_mails.Goals as goal

pub loop-mail-preserved : goal.loop-mail-preserved
loop-mail-preserved c =
    rw c.in_ok-push_leaving.ensures
    (each-read (leaving_words c.args.chart.now c.args.text.now) c.loop-mail.out.items c.args.mails.now c.loop-mail.mail-index _ _ c.loop-mail-test.true c.loop-mail.invariant)
