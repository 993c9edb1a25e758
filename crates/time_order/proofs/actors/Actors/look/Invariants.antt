use Rattle.std.proofs.Common.{◌≡◌, ◌<◌, ℕ, length}
use Rattle.time_order.specs.Actors.{AreLooked}
use Rattle.time_order.specs.Flights.{AreSorted, queue_at}
use Rattle.time_order.proofs.actors.Actors.look.Given as goal

abbrev pub invariant-loop-place : goal.invariant-loop-place
invariant-loop-place l =
    record {
      looked : AreLooked l.machine.state l.self.free l.self.queues.items l.place l.self.choices;
      sorted : (place : ℕ) → place < l.place → AreSorted (queue_at l.self.queues.items place);
      free : l.self.free ≡ l.fn.self.free;
      queues : l.self.queues ≡ l.fn.self.queues;
      long : length l.self.choices ≡ length l.fn.self.choices;
    }
