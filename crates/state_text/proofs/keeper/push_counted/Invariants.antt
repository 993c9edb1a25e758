use Rattle.std.proofs.Common.{◌≡◌, ◌-◌, ◌++◌, flat_map, length}
use Rattle.std.specs.List.{range_with_len}
use Rattle.state_text.specs.Parts.{counted_line_of}
use Rattle.state_text.proofs.keeper.push_counted.Given as goal

abbrev pub invariant-loop-core : goal.invariant-loop-core
invariant-loop-core l =
    l.out.items ++ flat_map (counted_line_of l.keeper) (range_with_len l.core (length l.keeper.arrived - l.core))
    ≡ l.fn.out.items ++ flat_map (counted_line_of l.keeper) (range_with_len 0 (length l.keeper.arrived))
