use Rattle.std.proofs.Common.{◌≡◌, ◌++◌, drop, flat_map}
use Rattle.state_text.specs.Cores.{core_lines}
use Rattle.state_text.proofs.showing.push_cores.Given as goal

abbrev pub invariant-loop-core : goal.invariant-loop-core
invariant-loop-core l =
    l.out.items ++ flat_map (core_lines l.machine.state.setting.program l.places) (drop l.core l.machine.state.nodes)
    ≡ l.fn.out.items ++ flat_map (core_lines l.machine.state.setting.program l.places) l.machine.state.nodes
