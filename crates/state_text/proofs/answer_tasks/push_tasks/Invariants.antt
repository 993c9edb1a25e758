use Rattle.std.proofs.Common.{◌≡◌, ◌++◌, drop, flat_map}
use Rattle.state_text.specs.ForReaders.{task_end_line}
use Rattle.state_text.proofs.answer_tasks.push_tasks.Given as goal

abbrev pub invariant-loop-task : goal.invariant-loop-task
invariant-loop-task l =
    l.out.items ++ flat_map (task_end_line l.source.text.now l.source.located.now) (drop l.task-index l.tasks)
    ≡ l.fn.out.items ++ flat_map (task_end_line l.source.text.now l.source.located.now) l.tasks
