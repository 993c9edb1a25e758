use Rattle.std.proofs.Common.{◌≡◌, ℕ, ◌<◌, ◌≤◌, ◌&&◌, ◌||◌, length, slice_index}
use Rattle.rv_core.specs.Access.{is_held}
use Rattle.outcomes_top.proofs.circles.add_through.Given as goal

abbrev pub invariant-loop-from : goal.invariant-loop-from
invariant-loop-from l = record {
  count : length l.rows ≡ 32;
  done : (a : ℕ) → a < l.from → (b : ℕ)
      → is_held (slice_index l.rows a) b ≡ (is_held (slice_index l.initial.rows a) b || (is_held (slice_index l.initial.rows a) l.lock && is_held (slice_index l.initial.rows l.lock) b));
  rest : (a : ℕ) → l.from ≤ a → slice_index l.rows a ≡ slice_index l.initial.rows a;
}
