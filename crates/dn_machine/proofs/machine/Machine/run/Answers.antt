use Rattle.std.proofs.Common.{◌≡◌, IfOk, sym, ap, subst, ◌∙◌}
use Rattle.registration_protocol.specs.Node.{Setting}
use Rattle.registration_protocol.specs.Setting.{setting}
use Rattle.machine_rules.specs.State.{State, initial_state}
use Rattle.dn_machine.specs.Kept.{Made}
use Rattle.dn_machine.specs.Run.{IsSeedsRunOf}
use Rattle.dn_machine.proofs.machine.Machine.run.Goals as goal

pub run_from_start-requires-clause-initial : goal.run_from_start-requires-clause-initial
run_from_start-requires-clause-initial c =
    let P : Setting = record { program = c.self.inside.decoded; plans = c.self.inside.plans.items; shape = c.self.inside.shape; fuel = c.self.inside.fuel } in
    let none : c.self.inside.made ≡ 0 = ap (λ (m : Made). m.made) c.self.view_is ∙ c.requires in
    rw c.context_of-context.ensures (c.self.invariant.0.first none)

pub run_from_start-requires-clause-kept : goal.run_from_start-requires-clause-kept
run_from_start-requires-clause-kept c =
    let none : c.self.inside.made ≡ 0 = ap (λ (m : Made). m.made) c.self.view_is ∙ c.requires in
    rw (c.context_of-context.ensures, ← none) c.self.invariant.0

pub returns : goal.returns
returns c =
    let P : Setting = record { program = c.self.inside.decoded; plans = c.self.inside.plans.items; shape = c.self.inside.shape; fuel = c.self.inside.fuel } in
    let none : c.self.inside.made ≡ 0 = ap (λ (m : Made). m.made) c.self.view_is ∙ c.requires in
    let same : initial_state (setting c.context_of-context.result) ≡ c.args.self.state =
    ap initial_state c.context_of-context.ensures ∙ sym (c.self.invariant.0.first none) ∙ ap (λ (m : Made). m.state) c.self.view_is in
    subst (λ (S : State). IfOk c.run_from_start.result (IsSeedsRunOf S c.args.seed)) same c.run_from_start.ensures
