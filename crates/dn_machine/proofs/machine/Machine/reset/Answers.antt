use Rattle.registration_protocol.specs.Node.{Setting}
use Rattle.dn_machine.proofs.Opened.{kept-opened}
use Rattle.dn_machine.proofs.machine.Machine.reset.Goals as goal

pub invariant_of-self : goal.invariant_of-self
invariant_of-self c =
    let P : Setting = record { program = c.self.inside.decoded; plans = c.self.inside.plans.items; shape = c.self.inside.shape; fuel = c.self.inside.fuel } in
    (kept-opened P _ c.self.invariant.0.left.ready c.in_ok-self-inside.ensures.state, c.in_ok-self-inside.ensures.known)
