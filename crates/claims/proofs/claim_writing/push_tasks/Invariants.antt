use Rattle.std.proofs.Common.{◌≡◌, ◌++◌, take, drop, flat_map}
use Rattle.std.specs.List.{All}
use Rattle.claims.specs.Claim.{IsTask, task_rows}
use Rattle.claims.proofs.claim_writing.push_tasks.Given as goal

abbrev pub invariant-loop-task : goal.invariant-loop-task
invariant-loop-task l =
    record {
      text : l.out.items ++ flat_map task_rows (drop l.task-index l.tasks) ≡ l.fn.out.items ++ flat_map task_rows l.tasks;
      fits : All IsTask (take l.task-index l.tasks);
    }
