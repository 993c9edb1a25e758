use mathlib.Core.Option.{none}
use Rattle.atomic_table.specs.Table.{step}
use Rattle.std.proofs.Common.{rules, sym, ap, subst}
use Rattle.turn_lock.specs.Calling.{IsIdle}
use Rattle.turn_lock.specs.Passes.{Sharing}
use Rattle.turn_lock.proofs.Moves.{draw}
use Rattle.turn_lock.proofs.turn.Turn.draw.Goals as goal

pub fetch_add-requires : goal.fetch_add-requires
fetch_add-requires g c =
    let idle = subst (λ o. IsIdle o c.args.seat.now.me) (sym (ap (λ (t : Sharing g.row.O.Denot). t.opening) c.self.view_is)) c.requires.1 in
    (search rules, search rules, draw _ _ _ _ _ _ _ (step 0 0 0 0 none) idle)
