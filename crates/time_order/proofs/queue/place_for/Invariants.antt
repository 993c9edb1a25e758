use Rattle.std.proofs.Common.{◌≡◌, ◌<◌, ◌≤◌, ℕ, true, length, slice_index_or}
use Rattle.time_order.specs.declared.flight.Flight.{Flight as AFlight}
use Rattle.time_order.specs.Flights.{order_of}
use Rattle.time_order.specs.TimeOrder.{less}
use Rattle.time_order.proofs.queue.place_for.Given as goal

abbrev pub invariant-loop-place : goal.invariant-loop-place
invariant-loop-place l =
    record {
      within : l.place ≤ length l.flights;
      behind : (k : ℕ) (d : AFlight) → l.place ≤ k → k < length l.flights → less (order_of l.flight) (order_of (slice_index_or l.flights k d)) ≡ true;
    }

abbrev pub decreases-loop-place : goal.decreases-loop-place
decreases-loop-place l = l.place
