use Rattle.std.proofs.Common.{◌≡◌, ◌++◌, drop, flat_map}
use Rattle.state_text.specs.Cores.{entry_line}
use Rattle.state_text.proofs.entries.push_pairs.Given as goal

abbrev pub invariant-loop-pair : goal.invariant-loop-pair
invariant-loop-pair l =
    l.out.items ++ flat_map (entry_line l.program l.core.0) (drop l.pair-index l.pairs) ≡ l.fn.out.items ++ flat_map (entry_line l.program l.core.0) l.pairs
