use Rattle.std.proofs.Common.{◌≡◌, ℕ, take, length, if◌then◌else◌}
use Rattle.common_outcomes.specs.Alone.{cell_at, closed_by}
use Rattle.outcomes_top.specs.Tracks.{is_listed}
use Rattle.outcomes_top.proofs.cells.close_listed.Given as goal

abbrev pub invariant-loop-word : goal.invariant-loop-word
invariant-loop-word l = record {
  words : length l.cells ≡ length l.initial.cells;
  each : (w : ℕ) → cell_at l.cells w ≡ (if is_listed (take l.word-index l.listed) w then closed_by l.place l.lock w (cell_at l.initial.cells w) else cell_at l.initial.cells w);
}
