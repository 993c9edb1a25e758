use Rattle.std.proofs.Common.{◌≡◌, ◌≤◌, ◌-◌, suc, length}
use Rattle.flat_machine.specs.Step.{At, flat_steps, room, IsWithin}
use Rattle.flat_machine.specs.Accesses.{with_actions, actions_in}
use Rattle.flat_machine.proofs.running.Running.segment.Given as goal

abbrev pub invariant-loop-done : goal.invariant-loop-done
invariant-loop-done l =
    let start : At = record { task = l.fn.self; memory = l.fn.memory.items } in
    let now : At = record { task = l.self; memory = l.memory.items } in
    record {
      leads : flat_steps l.program l.fuel (suc l.fuel - l._done) now ≡ flat_steps l.program l.fuel (suc l.fuel) start;
      log : with_actions l.log (actions_in l.program l.fuel (suc l.fuel - l._done) now) ≡ with_actions l.fn.log (actions_in l.program l.fuel (suc l.fuel) start);
      words : length l.memory.items ≡ length l.program.memory;
      within : IsWithin l.fuel l.self;
      room : room l.fuel l.self ≤ room l.fuel l.fn.self;
    }
