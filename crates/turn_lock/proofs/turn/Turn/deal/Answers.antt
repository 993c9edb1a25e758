use Rattle.std.proofs.Common.{rules, ap, Option}
use Rattle.atomic_table.specs.Table.{Me}
use Rattle.turn_lock.specs.declared.desk.Desk.{Desk}
use Rattle.turn_lock.specs.declared.entry.Entry.{Entry}
use Rattle.turn_lock.specs.declared.view.View.{View}
use Rattle.turn_lock.proofs.Moves.{split}
use Rattle.turn_lock.proofs.turn.Turn.deal.Goals as goal

pub split_seat-other-requires : goal.split_seat-other-requires
split_seat-other-requires g c =
    let idle = ap (λ (m : Me (Option (Desk g.row.O.Denot g.row.O-In.Denot g.row.O-Out.Denot)) (View g.row.O.Denot (Entry g.row.O.Denot g.row.O-In.Denot g.row.O-Out.Denot))). m.0.stage) c.requires.dealer in
    (search rules, search rules, split _ _ _ _ 1 _ _ idle c.requires.left)
