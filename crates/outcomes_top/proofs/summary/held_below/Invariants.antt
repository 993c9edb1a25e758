use Rattle.std.proofs.Common.{◌≡◌, ℕ, ◌-◌, ◌&&◌}
use Rattle.std.specs.List.{find, list_any, range_with_len}
use Rattle.rv_core.specs.Access.{is_held}
use Rattle.common_outcomes.specs.Phases.{takes_elsewhere}
use Rattle.outcomes_top.proofs.summary.held_below.Given as goal

abbrev pub invariant-loop-lock : goal.invariant-loop-lock
invariant-loop-lock l = find (λ (k : ℕ). is_held l.held k && list_any (takes_elsewhere l.decl k) l.all) (range_with_len l.lock (l.most - l.lock))
    ≡ find (λ (k : ℕ). is_held l.held k && list_any (takes_elsewhere l.decl k) l.all) (range_with_len 0 l.most)
