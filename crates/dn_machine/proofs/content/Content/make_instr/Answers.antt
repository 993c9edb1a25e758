use Rattle.std.proofs.Common.{◌≡◌, Option, Some, None, refl, sym, ap, ◌∙◌}
use Rattle.dn_base.specs.declared.ids.CoreId.{CoreId}
use Rattle.message_net.specs.declared.event.Event.{Event}
use Rattle.message_net.specs.declared.event.Event.TheVariants.{Instr}
use Rattle.message_net.specs.declared.event.EventKind as kind
use Rattle.registration_protocol.specs.Setting.{setting}
use Rattle.machine_rules.specs.declared.stepped.Stepped.{Stepped}
use Rattle.dn_machine.specs.declared.log.Happened.{Happened}
use Rattle.dn_machine.specs.Content.{state_of}
use Rattle.dn_machine.specs.Log.{end_there, HasCome}
use Rattle.dn_machine.proofs.Making.{own-core-in, own-grants, own-told, noted-behind}
use Rattle.dn_machine.proofs.content.Content.make_instr.Goals as goal

pub returns-clause-came : goal.returns-clause-came
returns-clause-came c =
    let C = setting c.args.context.now in
    let S = state_of C c.args.self.now in
    let T = state_of C c.instruct.new.self in
    let event : Event = Instr c.args.core in
    let told : Happened = record { event = event; observed = c.instruct.result; end = end_there T (Some c.args.core) } in
    let came : HasCome S T told =
    record { next = c.instruct.ensures.state; observed = c.instruct.ensures.observed; end = ap (λ (o : Option CoreId). end_there T o) (sym (own-core-in S event c.args.core refl)) }
    in
    let silent : c.instruct.result.granted ≡ None = ap (λ (s : Stepped). s.granted) c.instruct.ensures.observed ∙ own-grants S event c.args.core refl in
    let same : c.instruct.result.kind ≡ kind.TheVariants.Instr = ap (λ (s : Stepped). s.kind) c.instruct.ensures.observed ∙ own-told S event c.args.core refl in
    record { told = told; event = refl; came = came; noted = noted-behind c.args.log.now _ _ told kind.TheVariants.Instr None c.in_ok-note_event.ensures same silent (c.note_end.ensures C) }
