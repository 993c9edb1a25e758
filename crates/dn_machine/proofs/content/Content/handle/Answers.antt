use Rattle.std.proofs.Common.{◌≡◌, Some, None, refl, sym, ◌∙◌}
use Rattle.registration_protocol.specs.Setting.{setting}
use Rattle.dn_machine.specs.Content.{state_of}
use Rattle.dn_machine.proofs.MailEvents.{handle-there, handle-next, handle-told, whole-taken}
use Rattle.dn_machine.proofs.content.Content.handle.Goals as goal

pub returns-in-None-clause-state : goal.returns-in-None-clause-state
returns-in-None-clause-state c =
    let there = handle-there (state_of (setting c.args.context.now) c.args.self.now) c.args.id c.requires.may in
    absurd (let e : None ≡ Some there.0 = sym c.in-None.is ∙ c.take.ensures.value ∙ there.1 in cc)

pub returns-in-None-clause-observed : goal.returns-in-None-clause-observed
returns-in-None-clause-observed c =
    let there = handle-there (state_of (setting c.args.context.now) c.args.self.now) c.args.id c.requires.may in
    absurd (let e : None ≡ Some there.0 = sym c.in-None.is ∙ c.take.ensures.value ∙ there.1 in cc)

pub deliver-granted-requires-clause-whole : goal.deliver-granted-requires-clause-whole
deliver-granted-requires-clause-whole c = whole-taken (state_of (setting c.args.context.now) c.args.self.now) c.args.id _ c.take.ensures.rest c.requires.whole

pub returns-in-Some-clause-state : goal.returns-in-Some-clause-state
returns-in-Some-clause-state c = c.deliver-granted.ensures.state ∙ handle-next (state_of (setting c.args.context.now) c.args.self.now) c.args.id c.in-Some.mail _ (sym c.take.ensures.value ∙ c.in-Some.is) c.take.ensures.rest

pub returns-in-Some-clause-observed : goal.returns-in-Some-clause-observed
returns-in-Some-clause-observed c =
    rw (handle-told (state_of (setting c.args.context.now) c.args.self.now) c.args.id c.in-Some.mail c.take.new.self.mails (sym c.take.ensures.value ∙ c.in-Some.is), c.deliver-granted.ensures.granted, c.kind.ensures) refl
