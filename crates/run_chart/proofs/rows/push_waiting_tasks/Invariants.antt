use Rattle.std.proofs.Common.{◌≡◌, ◌++◌, drop, flat_map}
use Rattle.run_chart.specs.Picture.{waiting_words}
use Rattle.run_chart.proofs.rows.push_waiting_tasks.Given as goal

abbrev pub invariant-loop-task : goal.invariant-loop-task
invariant-loop-task l = l.out.items ++ flat_map (waiting_words l.chart l.text) (drop l.task-index l.tasks) ≡ l.fn.out.items ++ flat_map (waiting_words l.chart l.text) l.tasks
