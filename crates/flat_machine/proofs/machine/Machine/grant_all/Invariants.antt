use Rattle.std.proofs.Common.{◌≡◌, Some, take, drop}
use Rattle.flat_machine.specs.Phases.{IsSoundFlat}
use Rattle.flat_machine.specs.Grants.{grants_from}
use Rattle.flat_machine.specs.Accesses.{with_actions, grants_actions}
use Rattle.flat_machine.proofs.machine.Machine.grant_all.Given as goal

abbrev pub invariant-loop-place : goal.invariant-loop-place
invariant-loop-place l =
    record {
      front : grants_from l.program l.fuel (Some l.fn.self) (take l.place l.grants) ≡ Some l.self;
      log : with_actions l.log (grants_actions l.program l.fuel (Some l.self) (drop l.place l.grants)) ≡ with_actions l.fn.log (grants_actions l.program l.fuel (Some l.fn.self) l.grants);
      sound : IsSoundFlat l.program l.fuel l.self;
    }
