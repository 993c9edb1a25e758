use Rattle.std.proofs.Common.{◌≡◌, Option, None, refl, sym, ap, ◌∙◌}
use Rattle.std.proofs.lemmas.Option.{same_Some}
use Rattle.dn_base.specs.declared.ids.CoreId.{CoreId}
use Rattle.message_net.specs.declared.event.Event.TheVariants.{Handle}
use Rattle.message_net.specs.declared.message.Mail.{Mail}
use Rattle.registration_protocol.specs.Setting.{setting}
use Rattle.dn_machine.specs.declared.log.Happened.{Happened}
use Rattle.dn_machine.specs.Content.{state_of}
use Rattle.dn_machine.specs.Log.{end_there, HasCome}
use Rattle.dn_machine.proofs.Making.{taken-there, handled-core, granted-behind, noted-behind}
use Rattle.dn_machine.proofs.MailEvents.{handle-next, handle-told, whole-taken}
use Rattle.dn_machine.proofs.content.Content.make_handling.Goals as goal

pub deliver-granted-requires-clause-whole : goal.deliver-granted-requires-clause-whole
deliver-granted-requires-clause-whole c =
    let took = taken-there c.args.self.now.pool.mails c.args.place c.take_at-mail.result c.take_at-mail.new.self.mails c.requires.distinct c.take_at-mail.ensures.value c.take_at-mail.ensures.rest in
    whole-taken (state_of (setting c.args.context.now) c.args.self.now) c.take_at-mail.result.id c.take_at-mail.new.self.mails took.1 c.requires.whole

pub returns-clause-came : goal.returns-clause-came
returns-clause-came c n there =
    let C = setting c.args.context.now in
    let S = state_of C c.args.self.now in
    let T = state_of C c.deliver-granted.new.self in
    let m = c.take_at-mail.result in
    let rest = c.take_at-mail.new.self.mails in
    let took = taken-there c.args.self.now.pool.mails c.args.place m rest c.requires.distinct c.take_at-mail.ensures.value c.take_at-mail.ensures.rest in
    let told : Happened = record { event = Handle m.id; observed = record { kind = c.kind.result; seen = None; granted = c.deliver-granted.result }; end = end_there T c.core_of.result } in
    let came : HasCome S T told =
    record {
      next = c.deliver-granted.ensures.state ∙ handle-next S m.id m rest took.0 took.1;
      observed = rw (handle-told S m.id m rest took.0, c.deliver-granted.ensures.granted, c.kind.ensures) refl;
      end = ap (λ (o : Option CoreId). end_there T o) (c.core_of.ensures ∙ sym (handled-core S m took.0));
    }
    in
    let event : Handle m.id ≡ Handle n.id = ap (λ (x : Mail). Handle x.id) (same_Some m n (sym c.take_at-mail.ensures.value ∙ there)) in
    let noted = granted-behind c.args.log.now _ _ (Handle m.id) c.kind.result c.deliver-granted.result c.in_ok-note_event.ensures c.in_ok-note_grant.ensures in
    record { told = told; event = event; came = came; noted = noted-behind c.args.log.now _ _ told c.kind.result c.deliver-granted.result noted refl refl (c.note_end.ensures C) }
