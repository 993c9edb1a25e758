use Rattle.std.proofs.Common.{◌≡◌, ◌++◌, List, length, map}
use Rattle.std.specs.List.{All}
use Rattle.turn_lock.specs.declared.entry.Entry.{Entry}
use Rattle.turn_lock.specs.Passes.{Sharing}
use Rattle.bank_hall.specs.Rows.{Tokens, HasPassesOf, AreTold, AreClosed}
use Rattle.bank_hall.proofs.row.Row.close.Given as goal

abbrev pub invariant-loop-turn : goal.invariant-loop-turn
invariant-loop-turn g l = record {
  fit : All (HasPassesOf l.turns.items) l.callers.items;
  shared : All (λ (t : Sharing g.row.O.Denot). t.passes ≡ length l.callers.items) l.turns.items;
  closed : (done : List (Sharing g.row.O.Denot)) × (l.turns.items ++ done ≡ l.fn.self) × AreClosed g.O.Object.content g.O.Object.answer g.O.Object.next done l.objects.items (map (λ h. h.items) l.histories.items);
  told : (hs : List (List (Entry g.row.O.Denot g.row.O-In.Denot g.row.O-Out.Denot))) → All (λ (c : Tokens g.row.O.Denot g.row.O-In.Denot g.row.O-Out.Denot). AreTold hs c.passes) l.callers.items → All (λ (c : Tokens g.row.O.Denot g.row.O-In.Denot g.row.O-Out.Denot). AreTold (hs ++ map (λ h. h.items) l.histories.items) c.passes) l.fn.callers.items;
}

abbrev pub decreases-loop-turn : goal.decreases-loop-turn
decreases-loop-turn g l = length l.turns.items
