use Rattle.std.proofs.Common.{List, [], ◌∷◌, ◌++◌, Option, Some, refl, ap, ◌∙◌}
use Rattle.turn_lock.specs.declared.desk.Desk.{Desk}
use Rattle.turn_lock.proofs.desk.Desk.in_slot.Goals as goal

pub returns : goal.returns
returns g c =
    let desk : Desk g.row.O.Denot g.row.O-In.Denot g.row.O-Out.Denot = record { object = c.args.object; history = c.in_ok-history.history } in (
      desk,
      c.push_reserved.ensures.items ∙ ap (λ (l : List (Option (Desk g.row.O.Denot g.row.O-In.Denot g.row.O-Out.Denot))). l ++ Some desk ∷ []) c.in_ok-slots.ensures.items,
      refl,
      c.in_ok-history.ensures.items,
    )
