use Rattle.std.proofs.Common.{◌≡◌, ℕ, ◌<◌, length, slice_index}
use Rattle.rv_core.specs.Access.{is_held}
use Rattle.common_outcomes.specs.Phases.{leads}
use Rattle.outcomes_top.proofs.circles.all_leading.Given as goal

abbrev pub invariant-loop-lock : goal.invariant-loop-lock
invariant-loop-lock l = record {
  count : length l.rows ≡ 32;
  leads : (a b : ℕ) → a < 32 → b < 32 → is_held (slice_index l.rows a) b ≡ leads l.all l.lock a b;
}
