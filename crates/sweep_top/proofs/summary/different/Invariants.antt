use Rattle.std.proofs.Common.{◌≡◌, ℕ, nat_eq, take}
use Rattle.std.specs.List.{list_any}
use Rattle.indexmap.specs.IndexSet.{contains, IsUnique}
use Rattle.sweep_top.proofs.summary.different.Given as goal

abbrev pub invariant-loop-number : goal.invariant-loop-number
invariant-loop-number l = record {
  unique : IsUnique nat_eq l.set;
  same : (q : ℕ) → contains nat_eq l.set q ≡ list_any (nat_eq q) (take l.number-index l.numbers);
}
