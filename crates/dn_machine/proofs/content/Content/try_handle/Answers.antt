use Rattle.std.proofs.Common.{refl, sym, ◌∙◌}
use Rattle.std.proofs.lemmas.Bool.{true≢false}
use Rattle.registration_protocol.specs.Setting.{setting}
use Rattle.dn_machine.specs.Content.{state_of}
use Rattle.dn_machine.proofs.MailEvents.{handle-next, handle-told, whole-taken}
use Rattle.dn_machine.proofs.TriedLemmas.{none-there, one-there, handled-by}
use Rattle.dn_machine.proofs.content.Content.try_handle.Goals as goal

pub returns-in_err-mail-clause-tried : goal.returns-in_err-mail-clause-tried
returns-in_err-mail-clause-tried c =
    rw (c.from_residual.ensures, c.in_err-mail.ensures.same)
    (none-there (state_of (setting c.args.context.now) c.args.self.now) c.args.id (c.in_err-mail.ensures.none.0 refl), refl)

pub deliver-granted-requires-clause-whole : goal.deliver-granted-requires-clause-whole
deliver-granted-requires-clause-whole c = whole-taken (state_of (setting c.args.context.now) c.args.self.now) c.args.id _ c.take.ensures.rest c.requires.whole

pub returns-clause-tried : goal.returns-clause-tried
returns-clause-tried c =
    let S = state_of (setting c.args.context.now) c.args.self.now in
    let took = sym c.in_ok-mail.ensures.value in
    record {
      may = one-there S c.args.id (λ none. true≢false (c.in_ok-mail.ensures.none.1 none));
      actor = handled-by S c.args.id c.in_ok-mail.mail took;
      observed = rw (handle-told S c.args.id c.in_ok-mail.mail c.take.new.self.mails took, c.deliver-granted.ensures.granted, c.kind.ensures) refl;
      state = c.deliver-granted.ensures.state ∙ handle-next S c.args.id c.in_ok-mail.mail _ took c.take.ensures.rest;
    }
