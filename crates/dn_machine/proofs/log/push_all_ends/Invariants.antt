use Rattle.std.proofs.Common.{◌≡◌, ◌++◌, drop}
use Rattle.dn_machine.specs.Ends.{noted_ends}
use Rattle.dn_machine.proofs.log.push_all_ends.Given as goal

abbrev pub invariant-loop-phase : goal.invariant-loop-phase
invariant-loop-phase l = record {
  so_far : l.out ++ noted_ends l.table l.number (drop l.phase-index l.phases) ≡ noted_ends l.table 0 l.phases;
  number : l.number ≡ l.phase-index;
}
