use Rattle.region_table.specs.Words.{has}
use Rattle.effect_checker.proofs.LeastLemmas.{least_more}
use Rattle.effect_checker.proofs.least.guarded_word.Goals as goal

pub loop-task-preserved : goal.loop-task-preserved
loop-task-preserved c =
    least_more c.args.tasks.now c.loop-task.task-index c.task-item.result c.args.lock (λ w. has c.args.set.now w) c.loop-task.least c.task_guarded_word.result c.lesser-least.result
    c.loop-task-test.true c.task-item.is c.lesser-least.ensures c.loop-task.invariant c.task_guarded_word.ensures
