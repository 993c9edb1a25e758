use Rattle.std.proofs.Common.{◌≡◌, ◌≤◌, length}
use Rattle.bank_hall.specs.Rows.{handed}
use Rattle.bank_hall.proofs.row.hand_out.Given as goal

abbrev pub invariant-loop-pass : goal.invariant-loop-pass
invariant-loop-pass g l = record {
  handed : handed l.callers.items l.passes.items ≡ handed l.fn.callers.items l.fn.passes.items;
  room : length l.passes.items ≤ length l.callers.items;
}

abbrev pub decreases-loop-pass : goal.decreases-loop-pass
decreases-loop-pass g l = length l.passes.items
