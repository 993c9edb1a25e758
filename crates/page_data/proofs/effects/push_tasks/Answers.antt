use Rattle.page_data.specs.Data.{effects_item}
use Rattle.page_data.proofs.Items.{item-step}
use Rattle.page_data.proofs.effects.push_tasks.Goals as goal

pub loop-task-preserved : goal.loop-task-preserved
loop-task-preserved c =
    rw c.in_ok-push_task.ensures
    (rw c.in_ok-push_gap.ensures
    (item-step (effects_item c.args.phase) c.loop-task.first c.loop-task.out.items c.args.tasks.now c.loop-task.task-index c.task-item.result _ c.loop-task-test.true c.task-item.is c.loop-task.invariant))
