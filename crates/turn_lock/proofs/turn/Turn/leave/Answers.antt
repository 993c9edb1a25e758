use Rattle.std.proofs.Common.{rules, ap}
use Rattle.turn_lock.specs.Passes.{Sharing}
use Rattle.turn_lock.proofs.Hands.{leave_desk, at_opening}
use Rattle.turn_lock.proofs.turn.Turn.leave.Goals as goal

pub fetch_add-requires : goal.fetch_add-requires
fetch_add-requires g c =
    let key = ap (λ (t : Sharing g.row.O.Denot). t.opening) c.self.view_is in
    let hand = at_opening _ _ _ _ _ _ _ _ key c.requires.none in
    (search rules, search rules, leave_desk _ _ _ _ _ _ _ c.args.desk _ _ hand c.put.ensures.1)
