use Rattle.std.proofs.Common.{◌≡◌, false, slice_set, Option, Some, None, refl, sym, ap, ◌∙◌}
use Rattle.std.specs.Option.{is_some}
use Rattle.message_net.specs.declared.event.Event.{Event}
use Rattle.message_net.specs.declared.message.Outgoing.{Outgoing}
use Rattle.dn_machine.proofs.content.Content.core_evicted.Goals as goal

silent : (o : Option Outgoing) → is_some o ≡ false → o ≡ None
silent None is = refl
silent (Some out) is = absurd (cc)

pub returns-clause-state : goal.returns-clause-state
returns-clause-state c =
    let none = silent c.args.sent.now (sym c.is_some.ensures ∙ c.if-is_some.false) in
    rw none refl

pub returns-clause-own : goal.returns-clause-own
returns-clause-own c = λ n here.
    let none = silent c.args.sent.now (sym c.is_some.ensures ∙ c.if-is_some.false) in
    let is = c.instr_at-own.ensures n (rw c.as_slice.ensures.value here) in
    c.set.ensures ∙ ap (slice_set c.args.self.now.own c.args.core.0) (ap (λ (e : Event). Some e) is ∙ sym (c.requires.room n here none))
