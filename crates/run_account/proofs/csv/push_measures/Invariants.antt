use Rattle.std.proofs.Common.{◌≡◌, ◌++◌, drop, flat_map}
use Rattle.run_account.specs.Forms.{csv_lines}
use Rattle.run_account.proofs.csv.push_measures.Given as goal

abbrev pub invariant-loop-measure : goal.invariant-loop-measure
invariant-loop-measure l = l.out.items ++ flat_map (csv_lines l.program l.table) (drop l.measure-index l.measures) ≡ l.fn.out.items ++ flat_map (csv_lines l.program l.table) l.measures
