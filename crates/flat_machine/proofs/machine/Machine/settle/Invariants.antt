use Rattle.std.proofs.Common.{◌≡◌, ◌≤◌, ◌-◌, length}
use Rattle.flat_machine.specs.Phases.{settled, work, IsSoundFlat}
use Rattle.flat_machine.specs.Accesses.{with_actions, settled_actions}
use Rattle.flat_machine.proofs.machine.Machine.settle.Given as goal

abbrev pub invariant-phases : goal.invariant-phases
invariant-phases l =
    record {
      leads : settled l.program l.fuel l.self ≡ settled l.program l.fuel l.fn.self;
      log : with_actions l.log (settled_actions l.program l.fuel l.self) ≡ with_actions l.fn.log (settled_actions l.program l.fuel l.fn.self);
      sound : IsSoundFlat l.program l.fuel l.self;
      work : work l.program l.fuel l.self ≤ work l.program l.fuel l.fn.self;
    }

abbrev pub decreases-phases : goal.decreases-phases
decreases-phases l = length l.program.phases - l.self.begun
