use Rattle.std.proofs.Common.{◌≡◌, ◌-◌, ◌++◌, flat_map}
use Rattle.std.specs.List.{range_with_len}
use Rattle.run_account.specs.Forms.{traffic_line}
use Rattle.run_account.proofs.traffic.push_groups.Given as goal

abbrev pub invariant-loop-group : goal.invariant-loop-group
invariant-loop-group l =
    l.out.items ++ flat_map (traffic_line l.program l.table l.row) (range_with_len l.group (l.groups - l.group)) ≡ l.fn.out.items ++ flat_map (traffic_line l.program l.table l.row) (range_with_len 0 l.groups)
