use Rattle.std.proofs.Common.{◌≡◌, ◌+◌, drop, length}
use Rattle.region_table.specs.Program.{tasks_of}
use Rattle.run_report.proofs.totals.task_count.Given as goal

abbrev pub invariant-loop-phase : goal.invariant-loop-phase
invariant-loop-phase l = l.count + length (tasks_of (drop l.phase-index l.phases)) ≡ length (tasks_of l.phases)
