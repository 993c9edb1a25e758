use Rattle.std.proofs.Common.{◌∙◌, ap, ◌∷◌}
use Rattle.atomic_table.specs.Table.{rest}
use Rattle.turn_lock.proofs.Hands.{takes_out}
use Rattle.turn_lock.proofs.turn.Turn.enter.Goals as goal

pub returns-clause-hand : goal.returns-clause-hand
returns-clause-hand g c =
    let out = c.exchange.ensures.2 ∙ ap (λ r. (0, r) ∷ rest c.wait.new.seat.me.1) c.in-Some.is in
    takes_out _ _ _ _ _ c.in-Some.desk _ _ _ c.requires.1 c.wait.ensures.turn.1 out c.exchange.ensures.3
