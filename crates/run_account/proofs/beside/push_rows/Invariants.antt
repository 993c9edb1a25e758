use Rattle.std.proofs.Common.{◌≡◌, ◌++◌, drop, flat_map}
use Rattle.run_account.specs.Forms.{list_row_text}
use Rattle.run_account.proofs.beside.push_rows.Given as goal

abbrev pub invariant-loop-row : goal.invariant-loop-row
invariant-loop-row l = l.out.items ++ flat_map (list_row_text l.table) (drop l.row-index l.rows) ≡ l.fn.out.items ++ flat_map (list_row_text l.table) l.rows
