use Rattle.std.proofs.Common.{◌≡◌, ◌+◌, ℕ, drop, length, sum_by}
use Rattle.time_order.specs.declared.flight.Flight.{Flight as AFlight}
use Rattle.time_order.specs.Flights.{queue_at, weight_to}
use Rattle.time_order.proofs.sending.put_sent.Given as goal

abbrev pub invariant-loop-place : goal.invariant-loop-place
invariant-loop-place l =
    record {
      rows : length l.queues.items ≡ length l.fn.queues.items;
      weights : (place : ℕ) (weight : AFlight → ℕ) → sum_by weight (queue_at l.queues.items place) + weight_to l.network l.shape l.sent place weight (drop l.place l.pool.mails)
          ≡ sum_by weight (queue_at l.fn.queues.items place) + weight_to l.network l.shape l.sent place weight (drop l.first l.pool.mails);
    }
