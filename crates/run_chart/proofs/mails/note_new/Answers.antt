use Rattle.std.proofs.Common.{◌++◌, drop, length, map, refl, arith}
use Rattle.run_chart.specs.Mails.{sent_on}
use Rattle.run_chart.proofs.Items.{mapped-step}
use Rattle.run_chart.proofs.mails.note_new.Goals as goal

pub loop-place-preserved : goal.loop-place-preserved
loop-place-preserved c =
    let mails = c.args.pool.now.mails in
    let first = c.args.sent.now in
    record {
      within = omega (arith, c.loop-place-test.true, c.count-end.ensures.count);
      so_far =
          mapped-step (sent_on c.args.line) mails c.loop-place.place c.at.result c.loop-place.sent c.push.new.self (sent_on c.args.line c.at.result) (first ++ map (sent_on c.args.line) (drop (length first) mails)) c.at.ensures refl
          c.in_ok-push.ensures.ok c.loop-place.invariant.so_far;
    }
