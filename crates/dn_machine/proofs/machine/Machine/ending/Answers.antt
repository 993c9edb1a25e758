use Rattle.std.proofs.Common.{◌≡◌, IfOk, ap, subst, ◌∙◌}
use Rattle.rv_core.specs.declared.ending.Ending.{Ending}
use Rattle.registration_protocol.specs.Node.{Setting}
use Rattle.registration_protocol.specs.Setting.{setting}
use Rattle.machine_rules.specs.State.{State}
use Rattle.dn_machine.specs.Content.{state_of}
use Rattle.dn_machine.specs.Ends.{noted_ending}
use Rattle.dn_machine.specs.Kept.{Made}
use Rattle.dn_machine.proofs.machine.Machine.ending.Goals as goal

pub ending-requires : goal.ending-requires
ending-requires c = record { machine = rw c.context_of-context.ensures c.self.invariant.0.sound.machine }

pub returns : goal.returns
returns c =
    let same : state_of (setting c.context_of-context.result) c.self.inside.content ≡ c.args.self.now.state =
    ap (λ (C : Setting). state_of C c.self.inside.content) c.context_of-context.ensures ∙ ap (λ (m : Made). m.state) c.self.view_is in
    subst (λ (S : State). IfOk c.ending.result (λ (e : Ending). e ≡ noted_ending c.args.log.now.ends S)) same c.ending.ensures
