use Rattle.std.proofs.Common.{Some, ap, ◌∙◌}
use Rattle.message_net.specs.declared.event.Event.{Event}
use Rattle.registration_protocol.specs.Setting.{setting}
use Rattle.host_workers.proofs.deeds.act.Goals as goal

pub evict-requires-clause-may : goal.evict-requires-clause-may
evict-requires-clause-may c =
    (c.an_own_event_may_come.ensures (setting c.args.context.now) c.args.node.now _ (c.requires.own ∙ ap (λ (e : Event). Some e) c.in-Evict.is)).1
