use Rattle.std.proofs.Common.{◌≡◌, ◌+◌, ◌≤◌, map}
use Rattle.std.specs.List.{range_with_len}
use Rattle.run_chart.specs.Choosing.{chooses_actor}
use Rattle.run_chart.proofs.choosing.marked_actors.Given as goal

abbrev pub invariant-loop-index : goal.invariant-loop-index
invariant-loop-index l =
    (l.index ≤ l.shape.cores + l.shape.banks + 1) × (l.marks ≡ map (chooses_actor l.list l.shape) (range_with_len 0 l.index))
