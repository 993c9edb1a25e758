use Rattle.std.proofs.Common.{◌≡◌, [], length}
use Rattle.bank_hall.specs.Rows.{AreNew}
use Rattle.bank_hall.proofs.row.callers.Given as goal

abbrev pub invariant-loop-number : goal.invariant-loop-number
invariant-loop-number g l = record {
  new : AreNew [] 0 l.all.items;
  count : length l.all.items ≡ l.number;
}
