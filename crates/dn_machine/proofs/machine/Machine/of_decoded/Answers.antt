use Rattle.registration_protocol.specs.Node.{Setting}
use Rattle.dn_machine.proofs.Opened.{kept-opened}
use Rattle.dn_machine.proofs.machine.Machine.of_decoded.Goals as goal

pub invariant_of-result : goal.invariant_of-result
invariant_of-result c =
    let P : Setting = record { program = c.args.decoded; plans = c.args.plans.items; shape = c.args.shape; fuel = c.args.fuel } in
    (kept-opened P _ (record { context = c.requires.context; program = c.requires.program; checked = c.requires.checked }) c.in_ok-content.ensures.state, c.in_ok-content.ensures.known)
