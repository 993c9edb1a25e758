use Rattle.std.proofs.Common.{Some, ◌∙◌}
use Rattle.message_net.specs.declared.event.Event.TheVariants.{Instr}
use Rattle.registration_protocol.specs.OwnEvents.{own_event}
use Rattle.registration_protocol.specs.Setting.{setting}
use Rattle.dn_machine.proofs.Staying.{row-stays}
use Rattle.dn_machine.proofs.content.Content.core_got.Goals as goal

pub returns-then-has_instr-clause-own : goal.returns-then-has_instr-clause-own
returns-then-has_instr-clause-own c = λ n here.
    let C = setting c.args.context.now in
    let has = c.has_instr.ensures c.if-has_instr.true in
    let is = c.requires.stays n has.0 here has.1 in
    c.core_posts.ensures.own ∙ row-stays c.args.self.now.own c.args.core.0 (Some (Instr has.0)) (own_event C n) has.1 is
