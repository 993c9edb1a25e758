use Rattle.std.proofs.Common.{◌≡◌, ◌+◌, ◌<◌, ◌≤◌, ℕ, Some, length}
use Rattle.run_timing.proofs.Ways.{steps_to}
use Rattle.run_timing.proofs.befores.Befores.count_to.Given as goal

abbrev pub invariant-loop-next : goal.invariant-loop-next
invariant-loop-next l =
    record {
      within : (i : ℕ) → l.next ≡ Some i → i < length l.self;
      count : l.count + steps_to l.next ≤ steps_to l.initial.next;
    }

abbrev pub decreases-loop-next : goal.decreases-loop-next
decreases-loop-next l = steps_to l.next
