use Rattle.std.proofs.Common.{◌≡◌, drop}
use Rattle.machine_rules.specs.Memory.{pending_among}
use Rattle.dn_machine.proofs.held.pending_among.Given as goal

abbrev pub invariant-loop-node : goal.invariant-loop-node
invariant-loop-node l = pending_among (drop l.node-index l.nodes) l.word.0 ≡ pending_among l.nodes l.word.0
