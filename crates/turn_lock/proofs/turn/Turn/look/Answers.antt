use mathlib.Core.Option.{none}
use Rattle.atomic_table.specs.Table.{step}
use Rattle.std.proofs.Common.{rules, sym, ap, subst}
use Rattle.turn_lock.specs.Calling.{WaitsForTurn}
use Rattle.turn_lock.specs.Passes.{Sharing}
use Rattle.turn_lock.proofs.Moves.{look}
use Rattle.turn_lock.proofs.turn.Turn.look.Goals as goal

pub load-requires : goal.load-requires
load-requires g c =
    let waiting = subst (λ o. WaitsForTurn o c.args.ticket c.args.seat.now.me) (sym (ap (λ (t : Sharing g.row.O.Denot). t.opening) c.self.view_is)) c.requires.1 in
    (search rules, search rules, look _ _ _ _ _ _ _ _ (step 0 0 0 0 none) waiting)
