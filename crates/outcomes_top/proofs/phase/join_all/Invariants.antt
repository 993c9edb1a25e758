use Rattle.std.proofs.Common.{◌≡◌, ℕ, ◌<◌, ◌≤◌, length}
use Rattle.common_outcomes.specs.Values.{joined_effect}
use Rattle.common_outcomes.specs.Alone.{cell_at}
use Rattle.outcomes_top.specs.Effects.{effect_at}
use Rattle.outcomes_top.proofs.phase.join_all.Given as goal

abbrev pub invariant-loop-place : goal.invariant-loop-place
invariant-loop-place l = record {
  words : length l.effects ≡ length l.initial.effects;
  done : (w : ℕ) → w < l.place → effect_at l.effects w ≡ joined_effect (effect_at l.initial.effects w) (cell_at l.cells w).effect;
  rest : (w : ℕ) → l.place ≤ w → effect_at l.effects w ≡ effect_at l.initial.effects w;
}
