use Rattle.std.proofs.Common.{◌≡◌, ◌≤◌, max, drop}
use Rattle.region_table.specs.Program.{cores_in}
use Rattle.region_table.proofs.program.cores_with.Given as goal

abbrev pub invariant-loop-task : goal.invariant-loop-task
invariant-loop-task l = record {
  some : 1 ≤ l.cores;
  left : max l.cores (cores_in (drop l.task-index l.tasks)) ≡ max l.most (cores_in l.tasks);
}
