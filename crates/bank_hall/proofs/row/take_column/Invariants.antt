use Rattle.std.proofs.Common.{◌≡◌, ℕ, ◌<◌, ◌≤◌, length, Some, slice_get}
use Rattle.bank_hall.specs.Rows.{Tokens, with_passes}
use Rattle.bank_hall.proofs.row.take_column.Given as goal

abbrev pub invariant-loop-place : goal.invariant-loop-place
invariant-loop-place g l = record {
  joined : with_passes l.callers.items l.column.items ≡ l.fn.callers.items;
  count : length l.column.items ≡ l.place;
  callers : length l.callers.items ≡ length l.fn.callers.items;
  some : (i : ℕ) (c : Tokens g.row.O.Denot g.row.O-In.Denot g.row.O-Out.Denot) → l.place ≤ i → slice_get l.callers.items i ≡ Some c → 0 < length c.passes;
}
