use Rattle.std.proofs.Common.{◌≡◌, true}
use Rattle.message_net.specs.declared.event.Event.TheVariants.{Handle}
use Rattle.registration_protocol.specs.Node.{Setting}
use Rattle.machine_rules.specs.Next.{enabled}
use Rattle.dn_machine.specs.Content.{state_of}
use Rattle.dn_machine.proofs.MailEvents.{id-counted}
use Rattle.dn_machine.proofs.machine.Machine.actor.Goals as goal

pub mail_with-requires : goal.mail_with-requires
mail_with-requires c =
    let P : Setting = record { program = c.self.inside.decoded; plans = c.self.inside.plans.items; shape = c.self.inside.shape; fuel = c.self.inside.fuel } in
    let may : enabled (state_of P c.self.inside.content) (Handle c.in-Handle.id) ≡ true = rw (← c.self.view_is, c.in-Handle.is) at c.requires in
    id-counted (state_of P c.self.inside.content) c.in-Handle.id may
