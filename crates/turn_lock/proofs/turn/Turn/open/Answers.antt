use Rattle.std.proofs.Common.{sym, ap, ◌∙◌}
use Rattle.turn_lock.proofs.Moves.{begin}
use Rattle.turn_lock.proofs.turn.Turn.open.Goals as goal

pub new-made-requires : goal.new-made-requires
new-made-requires g c =
    let laid = c.in_ok-slots.ensures in
    begin _ _ _ _ 1 _ _ laid.1 c.requires.some c.requires.few (laid.3, ap g.O.Object.content (c.of.ensures ∙ sym laid.2))
