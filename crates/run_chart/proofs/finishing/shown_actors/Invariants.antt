use Rattle.std.proofs.Common.{◌≡◌, ◌+◌, ◌≤◌, map}
use Rattle.std.specs.List.{range_with_len}
use Rattle.run_chart.specs.Finishing.{has_column_at}
use Rattle.run_chart.proofs.finishing.shown_actors.Given as goal

abbrev pub invariant-loop-index : goal.invariant-loop-index
invariant-loop-index l =
    (l.index ≤ l.shape.cores + l.shape.banks) × (l.shown ≡ map (has_column_at l.columns l.rows l.leaving l.waiting l.shape) (range_with_len 0 l.index))
