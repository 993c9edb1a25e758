use Rattle.std.proofs.Common.{◌≡◌, ◌+◌, ◌≤◌, ◌++◌, drop, length}
use Rattle.run_chart.specs.Finishing.{waiting_from}
use Rattle.run_chart.proofs.finishing.waiting_tasks.Given as goal

abbrev pub invariant-loop-core : goal.invariant-loop-core
invariant-loop-core l =
    record {
      line : l.line ≡ l.fn.line + length l.tasks;
      few : length l.tasks ≤ l.core;
      so_far : l.tasks ++ waiting_from l.line (drop l.core l.machine.state.nodes) ≡ waiting_from l.fn.line l.machine.state.nodes;
    }
