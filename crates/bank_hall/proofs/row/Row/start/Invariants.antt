use Rattle.std.proofs.Common.{◌≡◌, ◌++◌, length, map}
use Rattle.std.specs.List.{All}
use Rattle.turn_lock.specs.Passes.{Sharing}
use Rattle.bank_hall.specs.Rows.{AreNew}
use Rattle.bank_hall.proofs.row.Row.start.Given as goal

abbrev pub invariant-loop-object : goal.invariant-loop-object
invariant-loop-object g l = record {
  opened : l.objects.items ++ map (λ (t : Sharing g.row.O.Denot). t.opening) l.turns.items ≡ l.fn.objects.items;
  shared : All (λ (t : Sharing g.row.O.Denot). t.passes ≡ l.passes) l.turns.items;
  count : length l.all.items ≡ l.passes;
  new : AreNew l.turns.items 0 l.all.items;
}

abbrev pub decreases-loop-object : goal.decreases-loop-object
decreases-loop-object g l = length l.objects.items
