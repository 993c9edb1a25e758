use Rattle.std.proofs.Common.{◌≡◌, ℕ, ◌<◌, length, slice_index}
use Rattle.rv_core.specs.Access.{is_held}
use Rattle.common_outcomes.specs.Phases.{is_nested}
use Rattle.outcomes_top.proofs.circles.rows_of.Given as goal

abbrev pub invariant-loop-lock : goal.invariant-loop-lock
invariant-loop-lock l = record {
  count : length l.rows ≡ 32;
  done : (a : ℕ) → a < l.lock → (b : ℕ) → b < 32 → is_held (slice_index l.rows a) b ≡ is_nested l.all a b;
}
