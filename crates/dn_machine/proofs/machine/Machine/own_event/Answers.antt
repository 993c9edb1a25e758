use Rattle.std.proofs.Common.{◌≡◌, ◌-◌, true, length, get_or, List, map, IfSome, Option, Some, None, refl, sym, ap, ◌∙◌}
use Rattle.message_net.specs.declared.event.Event.{Event}
use Rattle.registration_protocol.specs.Node.{Setting}
use Rattle.registration_protocol.specs.OwnEvents.{own_event}
use Rattle.machine_rules.specs.Next.{enabled}
use Rattle.machine_rules.specs.Sound.{IsMachine}
use Rattle.dn_machine.specs.Pick.{own_event_in}
use Rattle.dn_machine.proofs.OwnEvent.{row-at, own-event-comes}
use Rattle.dn_machine.proofs.machine.Machine.own_event.Goals as goal

machine-of : (c : goal.After-of_core) → IsMachine c.args.self.now.state
machine-of c = rw (← c.self.view_is) c.self.invariant.0.sound.machine

event-in : (c : goal.After-of_core) → c.of_core.result ≡ own_event_in c.args.self.now.state c.args.core.0
unfolding own_event_in
event-in c =
    let P : Setting = record { program = c.self.inside.decoded; plans = c.self.inside.plans.items; shape = c.self.inside.shape; fuel = c.self.inside.fuel } in
    rw (← c.self.view_is)
    (c.of_core.ensures ∙ (ap (λ (row : List (Option Event)). get_or row c.args.core.0 None) c.self.invariant.1
    ∙ row-at P c.self.inside.content.nodes.items (16 - length (map (own_event P) c.self.inside.content.nodes.items)) c.args.core.0))

pub returns-clause-event : goal.returns-clause-event
returns-clause-event c = event-in c

pub returns-clause-comes : goal.returns-clause-comes
returns-clause-comes c = by_result c.of_core.result refl where
  by_result : (o : Option Event) → c.of_core.result ≡ o → IfSome o (λ event. enabled c.args.self.now.state event ≡ true)
  by_result None is = tt
  by_result (Some e) is = own-event-comes c.args.self.now.state c.args.core.0 e (machine-of c) (sym (event-in c) ∙ is)
