use Rattle.std.proofs.Common.{◌∙◌}
use Rattle.registration_protocol.specs.Node.{need_now}
use Rattle.registration_protocol.specs.OwnEvents.{wanted_by}
use Rattle.state_text.specs.Reasons.{inactive_reason, task_reason, wait_reason, filled_reason, room_reason}
use Rattle.state_text.proofs.Held.{or-four}
use Rattle.state_text.proofs.standing.evict.Goals as goal

pub returns : goal.returns
returns c =
    c.or-4.ensures
    ∙ rw (c.or-3.ensures, c.or-2.ensures, c.or.ensures, c.inactive.ensures, c.without_task.ensures, c.wait_reason.ensures, c.wait.ensures, c.filled_reason.ensures, c.wait-2.ensures, c.without_room.ensures, c.word_wanting_room-wanted.ensures, c.need.ensures)
    (or-four (inactive_reason c.args.node.now) (task_reason c.args.node.now.task) (wait_reason c.args.node.now.waiting) (filled_reason c.args.node.now.waiting)
    (room_reason c.args.node.now c.args.word (wanted_by c.args.node.now (need_now c.args.machine.now.state.setting c.args.node.now))))
