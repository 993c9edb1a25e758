use Rattle.std.proofs.Common.{◌∙◌}
use Rattle.registration_protocol.specs.Node.{need_now}
use Rattle.state_text.specs.Reasons.{inactive_reason, task_reason, wait_reason, need_reason}
use Rattle.state_text.proofs.Held.{or-three}
use Rattle.state_text.proofs.standing.instr.Goals as goal

pub returns : goal.returns
returns c =
    c.or-3.ensures
    ∙ rw (c.or-2.ensures, c.or.ensures, c.inactive.ensures, c.without_task.ensures, c.wait_reason.ensures, c.wait.ensures, c.need_reason.ensures, c.need.ensures)
    (or-three (inactive_reason c.args.node.now) (task_reason c.args.node.now.task) (wait_reason c.args.node.now.waiting) (need_reason c.args.node.now (need_now c.args.machine.now.state.setting c.args.node.now)))
