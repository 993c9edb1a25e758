use Rattle.std.proofs.Common.{◌≡◌, ℕ, ◌+◌, ◌-◌, ◌<◌, ◌≤◌, true}
use Rattle.region_table.specs.Words.{has}
use Rattle.effect_prover.proofs.usable.are_in.Given as goal

abbrev pub invariant-loop-word : goal.invariant-loop-word
invariant-loop-word l =
    record {
      from : l.first ≤ l.word;
      done : (w : ℕ) → l.first ≤ w → w < l.word → has l.set w ≡ true;
    }

abbrev pub decreases-loop-word : goal.decreases-loop-word
decreases-loop-word l = l.last + 1 - l.word
