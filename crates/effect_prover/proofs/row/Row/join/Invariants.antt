use Rattle.std.proofs.Common.{◌≡◌, ◌<◌, ℕ, length, slice_index_or}
use Rattle.effect_prover.specs.Range.{one}
use Rattle.effect_prover.specs.Row.{range_of}
use Rattle.effect_prover.specs.Sweep.{IsJoinedRange}
use Rattle.effect_prover.proofs.row.Row.join.Given as goal

abbrev pub invariant-loop-number : goal.invariant-loop-number
invariant-loop-number l =
    record {
      count : length l.ranges ≡ 32;
      done : (r : ℕ) → r < l.number → IsJoinedRange l.head l.argument (range_of l.self r) (range_of l.given r) (slice_index_or l.ranges r (one 0));
    }
