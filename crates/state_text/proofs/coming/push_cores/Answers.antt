use Rattle.state_text.specs.Coming.{enabled_own}
use Rattle.state_text.proofs.Steps.{item-step}
use Rattle.state_text.proofs.coming.push_cores.Goals as goal

pub loop-core-preserved : goal.loop-core-preserved
loop-core-preserved c =
    rw c.in_ok-push_own.ensures
    (item-step (enabled_own c.args.machine.now.state) c.loop-core.events c.args.machine.now.state.nodes c.loop-core.core c.node.result.now _ c.node.ensures.node c.loop-core.invariant)
