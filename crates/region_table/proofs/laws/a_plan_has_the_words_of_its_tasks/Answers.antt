use Rattle.region_table.proofs.WrittenLemmas.{task-written, task-guarded}
use Rattle.region_table.proofs.laws.a_plan_has_the_words_of_its_tasks.Goals as goal

pub returns-clause-written : goal.returns-clause-written
returns-clause-written c = task-written

pub returns-clause-guarded : goal.returns-clause-guarded
returns-clause-guarded c = task-guarded
