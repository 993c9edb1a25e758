use Rattle.std.proofs.Common.{◌≡◌, ◌<◌, slice_get, Some, sym, ap, subst, ◌∙◌, arith}
use Rattle.std.proofs.lemmas.Option.{slice_get-get_or}
use Rattle.registration_protocol.specs.Fit.{Fits}
use Rattle.registration_protocol.specs.Node.{NodeParts}
use Rattle.dn_machine.specs.Kept.{Made}
use Rattle.dn_machine.proofs.machine.Machine.node.Goals as goal

pub returns-clause-fits : goal.returns-clause-fits
returns-clause-fits c =
    let machine = c.self.invariant.0.sound.machine in
    let within : c.args.core.0 < c.self.inside.shape.cores = rw (← c.self.view_is) at c.requires in
    let here : slice_get c.self.inside.content.nodes.items c.args.core.0 ≡ Some c.index.result.now =
    slice_get-get_or c.self.inside.content.nodes.items c.args.core.0 c.index.result.now (omega (arith, machine.nodes, within)) ∙ ap (λ (n : NodeParts). Some n) (sym c.index.ensures)
    in
    subst (λ (m : Made). Fits m.state.setting c.index.result.now) c.self.view_is (machine.node c.args.core.0 c.index.result.now here).fits
