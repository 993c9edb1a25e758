use Rattle.effect_checker.specs.Checked.{lock_guards}
use Rattle.effect_checker.proofs.LeastLemmas.{least_more}
use Rattle.effect_checker.proofs.least.twice_guarded_word.Goals as goal

pub loop-task-preserved : goal.loop-task-preserved
loop-task-preserved c =
    least_more c.args.tasks.now c.loop-task.task-index c.task-item.result c.args.first (λ w. lock_guards c.args.tasks.now c.args.second w) c.loop-task.least c.task_twice_guarded_word.result c.lesser-least.result
    c.loop-task-test.true c.task-item.is c.lesser-least.ensures c.loop-task.invariant c.task_twice_guarded_word.ensures
