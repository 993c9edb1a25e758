use Rattle.effect_checker.proofs.TakerLemmas.{task_words}
use Rattle.effect_checker.proofs.takers.take_all_guarded.Goals as goal

pub take_guarded-requires-clause-within : goal.take_guarded-requires-clause-within
take_guarded-requires-clause-within c =
    task_words _ _ c.args.tasks.now c.loop-task.task-index c.task-item.result c.loop-task.invariant.kept.words c.requires.within c.loop-task-test.true c.task-item.is
