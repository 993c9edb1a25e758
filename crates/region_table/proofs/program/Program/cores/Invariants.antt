use Rattle.std.proofs.Common.{◌≡◌, ◌≤◌, max, drop}
use Rattle.region_table.specs.Program.{cores_in, tasks_of}
use Rattle.region_table.proofs.program.Program.cores.Given as goal

abbrev pub invariant-loop-phase : goal.invariant-loop-phase
invariant-loop-phase l = record {
  some : 1 ≤ l.most;
  within : l.most ≤ 16;
  left : max l.most (cores_in (tasks_of (drop l.phase-index l.phase-items))) ≡ cores_in (tasks_of l.phase-items);
}
