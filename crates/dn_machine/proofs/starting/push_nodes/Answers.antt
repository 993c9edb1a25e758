use Rattle.std.proofs.Common.{sym, ◌∙◌, arith}
use Rattle.registration_protocol.specs.Node.{initial_node}
use Rattle.registration_protocol.specs.Setting.{setting}
use Rattle.dn_machine.proofs.ListItems.{made-first}
use Rattle.dn_machine.proofs.starting.push_nodes.Goals as goal

pub loop-core-preserved : goal.loop-core-preserved
loop-core-preserved c =
    (omega arith, c.in_ok-push_node.ensures ∙ (rw c.loop-core.invariant.1 (sym (made-first (initial_node (setting c.args.context.now)) c.loop-core.core))))
