use Rattle.std.proofs.Common.{◌≡◌, ◌≤◌, map}
use Rattle.std.specs.List.{range_with_len}
use Rattle.registration_protocol.specs.Node.{initial_node}
use Rattle.registration_protocol.specs.Setting.{setting}
use Rattle.dn_machine.proofs.starting.push_nodes.Given as goal

abbrev pub invariant-loop-core : goal.invariant-loop-core
invariant-loop-core l =
    (l.core ≤ l.fn.context.shape.cores) × (l.nodes.items ≡ map (initial_node (setting l.fn.context)) (range_with_len 0 l.core))
