use Rattle.std.proofs.Common.{◌≡◌, drop, find}
use Rattle.claims.specs.Diagnosis.{is_by_task}
use Rattle.claims.proofs.diagnosing.task_of.Given as goal

abbrev pub invariant-loop-task : goal.invariant-loop-task
invariant-loop-task l = find (is_by_task l.access) (drop l.task-index l.claimed) ≡ find (is_by_task l.access) l.claimed
