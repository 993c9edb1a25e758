use Rattle.std.proofs.Common.{◌≡◌, ◌++◌, drop, flat_map}
use Rattle.run_account.specs.Forms.{traffic_row_text}
use Rattle.run_account.proofs.traffic.push_rows.Given as goal

abbrev pub invariant-loop-row : goal.invariant-loop-row
invariant-loop-row l = l.out.items ++ flat_map (traffic_row_text l.table) (drop l.row-index l.rows) ≡ l.fn.out.items ++ flat_map (traffic_row_text l.table) l.rows
