use Rattle.std.proofs.Common.{◌≡◌, ℕ, ◌+◌, ◌<◌, ◌||◌, Bool, drop, length, slice_get, Some}
use Rattle.run_chart.specs.Marks.{is_on_chain}
use Rattle.run_chart.proofs.marks.marks.Given as goal

abbrev pub invariant-loop-number : goal.invariant-loop-number
invariant-loop-number l =
    record {
      all : length l.marks.items ≡ l.count;
      each : (i : ℕ) → i < l.count → (b : Bool) × (slice_get l.marks.items i ≡ Some b) × ((is_on_chain (drop l.number-index l.chain) (l.first + i) || b) ≡ is_on_chain l.chain (l.first + i));
    }
