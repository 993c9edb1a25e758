use Rattle.std.proofs.Common.{◌≡◌, ◌++◌, drop, true}
use Rattle.page_data.specs.Program.{phase_objects}
use Rattle.page_data.proofs.program.push_phase_items.Given as goal

abbrev pub invariant-loop-phase : goal.invariant-loop-phase
invariant-loop-phase l =
    record {
      number : l.number ≡ l.phase-index;
      so_far : l.out.items ++ phase_objects l.first l.plans l.number (drop l.phase-index l.phases) ≡ l.fn.out.items ++ phase_objects true l.plans 0 l.phases;
    }
