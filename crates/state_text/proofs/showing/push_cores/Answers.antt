use Rattle.state_text.specs.Cores.{core_lines}
use Rattle.state_text.proofs.Steps.{item-step}
use Rattle.state_text.proofs.showing.push_cores.Goals as goal

pub loop-core-preserved : goal.loop-core-preserved
loop-core-preserved c =
    rw (c.in_ok-push_core_lines.ensures, c.program.ensures)
    (item-step (core_lines c.args.machine.now.state.setting.program c.args.places.now) c.loop-core.out.items c.args.machine.now.state.nodes c.loop-core.core c.node-node.result.now _
    c.node-node.ensures.node c.loop-core.invariant)
