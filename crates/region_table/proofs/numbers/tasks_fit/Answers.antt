use Rattle.std.proofs.Common.{subst}
use Rattle.std.proofs.lemmas.List.Elements.{All-more}
use Rattle.region_table.specs.Numbers.{IsOfWords}
use Rattle.region_table.proofs.NumberLemmas.{all-taken}
use Rattle.region_table.proofs.numbers.tasks_fit.Goals as goal

pub loop-task-preserved : goal.loop-task-preserved
loop-task-preserved c =
    All-more IsOfWords c.args.tasks.now c.loop-task.task-index c.task-item.result c.loop-task-test.true c.loop-task.invariant
    (subst IsOfWords c.task-item.is c.task_fits.ensures)

pub returns : goal.returns
returns c = all-taken IsOfWords c.loop-task.task-index c.args.tasks.now c.loop-task-test.false c.loop-task.invariant
