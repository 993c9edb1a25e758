use Rattle.std.proofs.Common.{◌≡◌, ◌++◌, drop, map}
use Rattle.run_changes.specs.Looks.{pair_before}
use Rattle.run_changes.proofs.looking.add_pairs.Given as goal

abbrev pub invariant-loop-pair : goal.invariant-loop-pair
invariant-loop-pair l = l.out ++ map pair_before (drop l.pair-index l.pairs) ≡ l.fn.out ++ map pair_before l.pairs
