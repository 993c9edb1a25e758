use Rattle.std.proofs.Common.{◌≡◌, ℕ, ◌-◌, ◌&&◌, List}
use Rattle.std.specs.List.{find, range_with_len}
use Rattle.rv_core.specs.Access.{is_held}
use Rattle.common_outcomes.specs.Phases.{Summary}
use Rattle.outcomes_top.specs.Reasons.{is_way, AreRows}
use Rattle.outcomes_top.proofs.takings.behind_below.Given as goal

abbrev pub invariant-loop-lock : goal.invariant-loop-lock
invariant-loop-lock l = (rs : List Summary) → AreRows rs l.rows
    → find (λ (k : ℕ). is_held l.held k && is_way rs l.from k) (range_with_len l.lock (l.most - l.lock)) ≡ find (λ (k : ℕ). is_held l.held k && is_way rs l.from k) (range_with_len 0 l.most)
