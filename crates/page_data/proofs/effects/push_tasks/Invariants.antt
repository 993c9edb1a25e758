use Rattle.std.proofs.Common.{◌≡◌, ◌++◌, drop}
use Rattle.page_data.specs.Data.{effects_item}
use Rattle.page_data.specs.Json.{item_texts}
use Rattle.page_data.proofs.effects.push_tasks.Given as goal

abbrev pub invariant-loop-task : goal.invariant-loop-task
invariant-loop-task l = l.out.items ++ item_texts (effects_item l.phase) l.first (drop l.task-index l.tasks) ≡ l.fn.out.items ++ item_texts (effects_item l.phase) l.begins l.tasks
