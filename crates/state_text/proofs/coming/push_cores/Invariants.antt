use Rattle.std.proofs.Common.{◌≡◌, ◌++◌, drop, flat_map}
use Rattle.state_text.specs.Coming.{enabled_own}
use Rattle.state_text.proofs.coming.push_cores.Given as goal

abbrev pub invariant-loop-core : goal.invariant-loop-core
invariant-loop-core l =
    l.events ++ flat_map (enabled_own l.machine.state) (drop l.core l.machine.state.nodes) ≡ l.fn.events ++ flat_map (enabled_own l.machine.state) l.machine.state.nodes
