use Rattle.std.proofs.Common.{◌≡◌, ◌++◌, drop, flat_map}
use Rattle.state_text.specs.Coming.{enabled_eviction}
use Rattle.state_text.proofs.coming.push_evictions.Given as goal

abbrev pub invariant-loop-pair : goal.invariant-loop-pair
invariant-loop-pair l =
    l.events ++ flat_map (enabled_eviction l.machine.state l.node) (drop l.pair-index l.pairs) ≡ l.fn.events ++ flat_map (enabled_eviction l.machine.state l.node) l.pairs
