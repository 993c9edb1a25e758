use Rattle.run_chart.specs.Picture.{waiting_words}
use Rattle.run_chart.proofs.Each.{each-read}
use Rattle.run_chart.proofs.rows.push_waiting_tasks.Goals as goal

pub loop-task-preserved : goal.loop-task-preserved
loop-task-preserved c =
    rw c.in_ok-push_waiting_task.ensures
    (each-read (waiting_words c.args.chart.now c.args.text.now) c.loop-task.out.items c.args.tasks.now c.loop-task.task-index _ _ c.loop-task-test.true c.loop-task.invariant)
