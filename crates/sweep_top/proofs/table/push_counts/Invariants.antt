use Rattle.std.proofs.Common.{◌≡◌, ◌++◌, drop, flat_map}
use Rattle.sweep_top.specs.Table.{count_cell}
use Rattle.sweep_top.proofs.table.push_counts.Given as goal

abbrev pub invariant-loop-count : goal.invariant-loop-count
invariant-loop-count l = l.out.items ++ flat_map count_cell (drop l.count-index l.counts) ≡ l.fn.out.items ++ flat_map count_cell l.counts
