use Rattle.std.proofs.Common.{refl}
use Rattle.registration_protocol.proofs.node.Node.fill.Goals as goal

pub returns-in-Hit : goal.returns-in-Hit
returns-in-Hit c = rw (← c.self.view_is, c.in-Hit.ensures) refl

pub returns-in-Full : goal.returns-in-Full
returns-in-Full c = rw (← c.self.view_is, c.in-Full.ensures.0, c.in-Full.ensures.1) refl

pub returns-in-Room : goal.returns-in-Room
returns-in-Room c = rw (← c.self.view_is, c.add_at.ensures, c.in-Room.ensures.0, c.in-Room.ensures.1) refl
