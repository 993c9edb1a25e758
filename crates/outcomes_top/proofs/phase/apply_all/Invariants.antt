use Rattle.std.proofs.Common.{◌≡◌, ℕ, ◌<◌, ◌≤◌, length, slice_index_or}
use Rattle.common_outcomes.specs.Values.{known, applied}
use Rattle.outcomes_top.specs.Effects.{effect_at}
use Rattle.outcomes_top.proofs.phase.apply_all.Given as goal

abbrev pub invariant-loop-place : goal.invariant-loop-place
invariant-loop-place l = record {
  words : length l.memory.items ≡ length l.initial.memory.items;
  done : (w : ℕ) → w < l.place → slice_index_or l.memory.items w (known 0) ≡ applied (effect_at l.effects w) (slice_index_or l.initial.memory.items w (known 0));
  rest : (w : ℕ) → l.place ≤ w → slice_index_or l.memory.items w (known 0) ≡ slice_index_or l.initial.memory.items w (known 0);
}
