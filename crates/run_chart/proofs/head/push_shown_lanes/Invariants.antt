use Rattle.std.proofs.Common.{◌≡◌, ◌-◌, ◌++◌, flat_map}
use Rattle.std.specs.List.{range_with_len}
use Rattle.run_chart.specs.Picture.{lane_at}
use Rattle.run_chart.proofs.head.push_shown_lanes.Given as goal

abbrev pub invariant-loop-index : goal.invariant-loop-index
invariant-loop-index l =
    l.out.items ++ flat_map (lane_at l.chart) (range_with_len l.index (32 - l.index)) ≡ l.fn.out.items ++ flat_map (lane_at l.chart) (range_with_len 0 32)
