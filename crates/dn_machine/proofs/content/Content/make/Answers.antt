use Rattle.std.proofs.Common.{Some, refl, sym, ap, ◌∙◌}
use Rattle.message_net.specs.declared.event.Event.TheVariants.{Handle}
use Rattle.registration_protocol.specs.Setting.{setting}
use Rattle.dn_machine.specs.declared.picking.Choice.{Choice}
use Rattle.dn_machine.specs.Content.{state_of}
use Rattle.dn_machine.specs.Pick.{chosen, handling_event}
use Rattle.dn_machine.proofs.ListItems.{item}
use Rattle.dn_machine.proofs.Making.{known-core, pick-chosen}
use Rattle.dn_machine.proofs.PickLaws.{pick-comes}
use Rattle.dn_machine.proofs.content.Content.make.Goals as goal

pub make_own-requires-clause-may : goal.make_own-requires-clause-may
make_own-requires-clause-may c =
    let S = state_of (setting c.args.context.now) c.args.self.now in
    let chose = c.in-Some-Own.is ∙ ap (λ (x : Choice). Some x) c.in-Some-Own.field-0-is in
    let picks = pick-chosen S c.args.self.now.own c.args.draw c.choose.result c.choose.ensures.picked c.requires.known in
    pick-comes S c.args.draw c.in-Some-Own.event c.requires.machine (sym picks ∙ ap (chosen S.mails) chose)

pub make_own-requires-clause-own : goal.make_own-requires-clause-own
make_own-requires-clause-own c =
    let chose = c.in-Some-Own.is ∙ ap (λ (x : Choice). Some x) c.in-Some-Own.field-0-is in
    known-core (setting c.args.context.now) c.args.self.now.nodes.items c.args.self.now.own c.in-Some-Own.event c.requires.known (c.choose.ensures.own c.in-Some-Own.event chose)

pub returns-in_ok-make_own-in-Some-Own-clause-came : goal.returns-in_ok-make_own-in-Some-Own-clause-came
returns-in_ok-make_own-in-Some-Own-clause-came c ok =
    let S = state_of (setting c.args.context.now) c.args.self.now in
    let chose = c.in-Some-Own.is ∙ ap (λ (x : Choice). Some x) c.in-Some-Own.field-0-is in
    let picks = pick-chosen S c.args.self.now.own c.args.draw c.choose.result c.choose.ensures.picked c.requires.known in
    (c.in-Some-Own.event, sym picks ∙ ap (chosen S.mails) chose, c.in_ok-make_own-in-Some-Own.ensures.came)

pub returns-in_ok-make_handling-in-Some-Mail-clause-came : goal.returns-in_ok-make_handling-in-Some-Mail-clause-came
returns-in_ok-make_handling-in-Some-Mail-clause-came c ok =
    let S = state_of (setting c.args.context.now) c.args.self.now in
    let chose = c.in-Some-Mail.is ∙ ap (λ (x : Choice). Some x) c.in-Some-Mail.field-0-is in
    let picks = pick-chosen S c.args.self.now.own c.args.draw c.choose.result c.choose.ensures.picked c.requires.known in
    let there = item S.mails c.in-Some-Mail.place (c.choose.ensures.mail c.in-Some-Mail.place chose) in
    (Handle there.0.id, sym picks ∙ ap (chosen S.mails) chose ∙ ap handling_event there.1, c.in_ok-make_handling-in-Some-Mail.ensures.came there.0 there.1)

pub returns-in-None-clause-over : goal.returns-in-None-clause-over
returns-in-None-clause-over c over =
    let S = state_of (setting c.args.context.now) c.args.self.now in
    let picks = pick-chosen S c.args.self.now.own c.args.draw c.choose.result c.choose.ensures.picked c.requires.known in
    (sym picks ∙ ap (chosen S.mails) c.in-None.is, refl, refl)
