use Rattle.std.proofs.Common.{◌≡◌, List, ◌++◌, Some}
use Rattle.dn_base.specs.declared.ids.Grant.{Grant}
use Rattle.flat_machine.specs.Phases.{work, IsSoundFlat}
use Rattle.flat_machine.specs.Grants.{grants_from, IsLeastFrom}
use Rattle.flat_machine.proofs.machine.Machine.grant_each.Given as goal

abbrev pub invariant-grants : goal.invariant-grants
invariant-grants l =
    record {
      least : (rest : List Grant) → IsLeastFrom l.program l.fuel (Some l.self) rest → IsLeastFrom l.program l.fuel (Some l.fn.self) (l.grants.items ++ rest);
      leads : grants_from l.program l.fuel (Some l.fn.self) l.grants.items ≡ Some l.self;
      sound : IsSoundFlat l.program l.fuel l.self;
    }

abbrev pub decreases-grants : goal.decreases-grants
decreases-grants l = work l.program l.fuel l.self
