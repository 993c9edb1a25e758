use Rattle.std.proofs.Common.{◌≡◌, ◌-◌, ◌++◌, flat_map}
use Rattle.std.specs.List.{range_with_len}
use Rattle.run_account.specs.Forms.{csv_line}
use Rattle.run_account.proofs.csv.push_measure.Given as goal

abbrev pub invariant-loop-group : goal.invariant-loop-group
invariant-loop-group l =
    l.out.items ++ flat_map (csv_line l.program l.table l.measure) (range_with_len l.group (l.groups - l.group)) ≡ l.fn.out.items ++ flat_map (csv_line l.program l.table l.measure) (range_with_len 0 l.groups)
