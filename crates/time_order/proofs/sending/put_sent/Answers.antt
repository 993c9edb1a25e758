use Rattle.std.proofs.Common.{◌+◌, drop, length, arith}
use Rattle.std.specs.Prelude.{sum_by}
use Rattle.time_order.specs.Flights.{queue_at, weight_to}
use Rattle.time_order.proofs.Sent.{place-below, sent-more}
use Rattle.time_order.proofs.sending.put_sent.Goals as goal

pub put_at-requires : goal.put_at-requires
put_at-requires c =
    place-below c.args.shape c.at-mail.result c.index-to.result (length c.args.queues.now.items) (length c.loop-place.queues.items) c.index-to.ensures c.requires.rows c.loop-place.invariant.rows
    (c.requires.receiver c.loop-place.place c.at-mail.result c.at-mail.ensures)

pub loop-place-preserved : goal.loop-place-preserved
loop-place-preserved c =
    record {
      rows = omega (arith, c.in_ok-put_at.ensures.rows, c.loop-place.invariant.rows);
      weights = λ place weight.
          sent-more c.args.network.now c.args.shape c.args.sent place weight c.args.pool.now.mails c.loop-place.place c.at-mail.result c.index-to.result c.flight.result
          (sum_by weight (queue_at c.put_at.new.queues.items place)) (sum_by weight (queue_at c.loop-place.queues.items place))
          (sum_by weight (queue_at c.args.queues.now.items place) + weight_to c.args.network.now c.args.shape c.args.sent place weight (drop c.args.first c.args.pool.now.mails))
          c.at-mail.ensures c.index-to.ensures c.flight.ensures (c.in_ok-put_at.ensures.weights place weight) (c.loop-place.invariant.weights place weight);
    }
