use Rattle.std.proofs.Common.{◌≡◌, ◌++◌, Some, drop}
use Rattle.flat_machine.specs.Phases.{IsSoundFlat}
use Rattle.flat_machine.specs.Acquires.{acquires_from}
use Rattle.flat_machine.proofs.acquires.acquires_by.Given as goal

abbrev pub invariant-loop-given : goal.invariant-loop-given
invariant-loop-given l =
    record {
      left : l.acquires ++ acquires_from l.program l.fuel (Some l.machine) (drop l.given-index l.grants) ≡ acquires_from l.program l.fuel (Some l.fn.machine) l.grants;
      sound : IsSoundFlat l.program l.fuel l.machine;
    }
