use Rattle.region_table.specs.Plan.{uses_plainly}
use Rattle.effect_checker.proofs.TakerLemmas.{task_words, taken_whole}
use Rattle.effect_checker.proofs.takers.take_all_plain.Goals as goal

pub take_plain-requires : goal.take_plain-requires
take_plain-requires c =
    task_words _ _ c.args.tasks.now c.loop-task.task-index c.task-item.result c.loop-task.invariant.kept.words c.requires c.loop-task-test.true c.task-item.is

pub returns-clause-taken : goal.returns-clause-taken
returns-clause-taken c = λ h.
    taken_whole uses_plainly c.args.tasks.now c.loop-task.task-index 1 c.loop-task.takers c.loop-task.auto.task-index-end c.loop-task-test.false c.loop-task.invariant.taken
