use Rattle.std.proofs.Common.{◌≡◌, ◌≤◌, ◌+◌, ◌*◌, drop, length, sum_by}
use Rattle.std.specs.List.{All}
use Rattle.flat_machine.specs.Step.{room, IsWithin}
use Rattle.flat_machine.specs.Phases.{run_all}
use Rattle.flat_machine.specs.Accesses.{with_actions, run_actions}
use Rattle.flat_machine.proofs.PhaseLemmas.{with_front}
use Rattle.flat_machine.proofs.machine.run_all.Given as goal

abbrev pub invariant-loop-task : goal.invariant-loop-task
invariant-loop-task l =
    record {
      leads : with_front l.ran.items (run_all l.program l.fuel l.phase.0 (drop l.task-index l.tasks) l.memory.items)
          ≡ run_all l.program l.fuel l.phase.0 l.tasks l.fn.memory.items;
      log : with_actions l.log (run_actions l.program l.fuel l.phase.0 (drop l.task-index l.tasks) l.memory.items)
          ≡ with_actions l.fn.log (run_actions l.program l.fuel l.phase.0 l.tasks l.fn.memory.items);
      words : length l.memory.items ≡ length l.program.memory;
      within : All (IsWithin l.fuel) l.ran.items;
      count : length l.ran.items ≡ l.task-index;
      room : sum_by (room l.fuel) l.ran.items ≤ l.task-index * (l.fuel + 1);
    }
