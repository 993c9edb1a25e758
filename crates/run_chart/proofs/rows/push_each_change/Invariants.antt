use Rattle.std.proofs.Common.{◌≡◌, ◌++◌, drop, flat_map}
use Rattle.run_chart.specs.Picture.{change_words}
use Rattle.run_chart.proofs.rows.push_each_change.Given as goal

abbrev pub invariant-loop-change : goal.invariant-loop-change
invariant-loop-change l = l.out.items ++ flat_map (change_words l.text l.x) (drop l.change-index l.changes) ≡ l.fn.out.items ++ flat_map (change_words l.text l.x) l.changes
