use Rattle.registration_protocol.specs.Node.{Setting}
use Rattle.dn_machine.proofs.Opened.{kept-opened}
use Rattle.dn_machine.proofs.machine.Machine.run_copy.Goals as goal

pub run_from_start-requires-clause-kept : goal.run_from_start-requires-clause-kept
run_from_start-requires-clause-kept c =
    let P : Setting = record { program = c.self.inside.decoded; plans = c.self.inside.plans.items; shape = c.self.inside.shape; fuel = c.self.inside.fuel } in
    rw c.context_of-context.ensures (kept-opened P _ c.self.invariant.0.left.ready c.in_ok-content.ensures.state)
