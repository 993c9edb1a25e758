use Rattle.std.proofs.Common.{◌≡◌, ◌≤◌, ◌&&◌, ℕ, nat_lt}
use Rattle.std.specs.Prelude.{count_by}
use Rattle.std.specs.List.{range_with_len}
use Rattle.run_chart.specs.Places.{is_shown}
use Rattle.run_chart.proofs.parts.Chart.shown_below.Given as goal

abbrev pub invariant-loop-other : goal.invariant-loop-other
invariant-loop-other l =
    record {
      within : l.other ≤ 32;
      count : l.count ≡ count_by (λ (i : ℕ). nat_lt i l.index && is_shown l.self.shown i) (range_with_len 0 l.other);
      most : l.count ≤ l.other;
    }
