use Rattle.std.proofs.Common.{slice_get}
use Rattle.dn_machine.specs.Ends.{end_in, end_index}
use Rattle.dn_machine.proofs.EndLists.{task-more}
use Rattle.dn_machine.proofs.log.push_ends.Goals as goal

pub loop-task-preserved : goal.loop-task-preserved
loop-task-preserved c =
    rw (c.in_ok-push_end.ensures, c.noted_at.ensures)
    (task-more (λ d. end_in (slice_get c.args.table.now (end_index c.args.phase d.core.0))) c.loop-task.out c.args.tasks.now c.loop-task.task-index c.task-item.result _ c.task-item.is c.loop-task-test.true c.loop-task.invariant)
