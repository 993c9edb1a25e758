use Rattle.std.proofs.Common.{◌≡◌, ℕ, take}
use Rattle.std.specs.List.{list_any}
use Rattle.region_table.specs.declared.declared.TaskDecl.{TaskDecl}
use Rattle.region_table.specs.Words.{has}
use Rattle.region_table.specs.Plan.{task_writes}
use Rattle.region_table.proofs.plan.words_written.Given as goal

abbrev pub invariant-loop-task : goal.invariant-loop-task
invariant-loop-task l = (w : ℕ) → has l.all w ≡ list_any (λ (t : TaskDecl). task_writes t w) (take l.task-index l.task-items)
