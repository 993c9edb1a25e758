use Rattle.std.proofs.Common.{◌∙◌}
use Rattle.turn_lock.proofs.Moves.{waits, drawn}
use Rattle.turn_lock.proofs.turn.Turn.wait.Goals as goal

pub stand-requires : goal.stand-requires
stand-requires g c = (c.draw-ticket.ensures.0.0 ∙ c.requires.0, waits _ _ c.args.seat.now.me _ c.requires.1 c.draw-ticket.ensures.1)

pub returns : goal.returns
returns g c = record {
  same = (c.stand.ensures.same.0 ∙ c.draw-ticket.ensures.0.0, c.stand.ensures.same.1 ∙ c.draw-ticket.ensures.0.1);
  turn = (c.draw-ticket.result, drawn _ _ _ _ c.args.seat.now.me _ _ c.draw-ticket.ensures.1 c.stand.ensures.turn);
}
