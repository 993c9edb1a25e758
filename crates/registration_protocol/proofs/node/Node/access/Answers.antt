use Rattle.std.proofs.Common.{sym}
use Rattle.registration_protocol.proofs.node.Node.access.Goals as goal

pub returns-in-Full-clause-goes : goal.returns-in-Full-clause-goes
returns-in-Full-clause-goes c = rw (← c.self.view_is, c.in-Full.ensures.0) (sym c.in-Full.ensures.1)

pub returns-in-Room-clause-goes : goal.returns-in-Room-clause-goes
returns-in-Room-clause-goes c = rw (← c.self.view_is, c.in-Room.ensures.0) (sym c.in-Room.ensures.1)
