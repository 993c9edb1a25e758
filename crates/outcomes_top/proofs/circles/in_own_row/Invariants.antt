use Rattle.std.proofs.Common.{◌≡◌, ℕ, ◌-◌, slice_index}
use Rattle.std.specs.List.{find, range_with_len}
use Rattle.rv_core.specs.Access.{is_held}
use Rattle.outcomes_top.proofs.circles.in_own_row.Given as goal

abbrev pub invariant-loop-lock : goal.invariant-loop-lock
invariant-loop-lock l = find (λ (k : ℕ). is_held (slice_index l.rows k) k) (range_with_len l.lock (l.most - l.lock)) ≡ find (λ (k : ℕ). is_held (slice_index l.rows k) k) (range_with_len 0 l.most)
