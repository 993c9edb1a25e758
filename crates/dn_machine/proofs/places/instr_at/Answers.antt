use Rattle.std.proofs.Common.{◌≡◌, ℕ, ap, ◌∙◌}
use Rattle.std.proofs.lemmas.Option.{get_or_from_slice_get}
use Rattle.dn_base.specs.declared.ids.CoreId.{CoreId}
use Rattle.message_net.specs.declared.event.Event.TheVariants.{Instr}
use Rattle.registration_protocol.specs.Node.{NodeParts}
use Rattle.dn_machine.proofs.places.instr_at.Goals as goal

pub returns : goal.returns
returns c = λ n here.
    let same = c.index-nodes-place.is ∙ get_or_from_slice_get c.args.nodes.now c.args.place n _ here in
    let number : c.core.result.0 ≡ n.core = c.core.ensures ∙ ap (λ (m : NodeParts). m.core) same in
    ap (λ (k : ℕ). let x : CoreId = record { 0 = k } in Instr x) number
