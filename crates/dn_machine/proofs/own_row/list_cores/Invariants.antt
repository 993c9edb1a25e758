use Rattle.std.proofs.Common.{◌≡◌, ◌≤◌, take}
use Rattle.dn_machine.specs.OwnRow.{cores_with}
use Rattle.dn_machine.proofs.own_row.list_cores.Given as goal

abbrev pub invariant-loop-core : goal.invariant-loop-core
invariant-loop-core l = record {
  seen : l.count ≤ l.core;
  within : l.core ≤ 16;
  listed : take l.count l.cores ≡ cores_with 0 (take l.core l.fn.own);
}
