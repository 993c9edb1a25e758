use Rattle.std.proofs.Common.{◌≡◌, ◌++◌, drop, flat_map}
use Rattle.run_account.specs.Forms.{tallies_row}
use Rattle.run_account.proofs.columns.push_rows.Given as goal

abbrev pub invariant-loop-measure : goal.invariant-loop-measure
invariant-loop-measure l = l.out.items ++ flat_map (tallies_row l.table) (drop l.measure-index l.measures) ≡ l.fn.out.items ++ flat_map (tallies_row l.table) l.measures
