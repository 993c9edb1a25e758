use Rattle.std.proofs.Common.{◌≡◌, ℕ, ◌<◌, ◌≤◌, true}
use Rattle.effect_prover.specs.Stretch.{may_use}
use Rattle.effect_prover.proofs.usable.few_usable.Given as goal

abbrev pub invariant-loop-leap : goal.invariant-loop-leap
invariant-loop-leap l =
    record {
      from : l.first ≤ l.word;
      done : (w : ℕ) → l.first ≤ w → w < l.word → may_use l.access l.task l.held w ≡ true;
    }
