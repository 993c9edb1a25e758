use Rattle.std.proofs.Common.{◌≡◌, ◌<◌, true, map, sym, ap, ◌∙◌, rules}
use Rattle.registration_protocol.specs.Node.{Setting}
use Rattle.registration_protocol.specs.OwnEvents.{own_event}
use Rattle.machine_rules.specs.State.{State}
use Rattle.machine_rules.specs.Next.{next, enabled, observed}
use Rattle.dn_machine.specs.Kept.{Made}
use Rattle.dn_machine.specs.Content.{state_of, in_row}
use Rattle.dn_machine.proofs.KeptLemmas.{whole-kept, kept-next}
use Rattle.dn_machine.proofs.machine.Machine.step.Goals as goal

pub invariant_of-self : goal.invariant_of-self
invariant_of-self c =
    let P : Setting = record { program = c.self.inside.decoded; plans = c.self.inside.plans.items; shape = c.self.inside.shape; fuel = c.self.inside.fuel } in
    (rw (c.reserve.ensures.state P) c.self.invariant.0, c.reserve.ensures.own ∙ c.self.invariant.1 ∙ ap (λ (S : State). in_row (map (own_event P) S.nodes)) (sym (c.reserve.ensures.state P)))

pub returns-in_err-reserve-clause-err : goal.returns-in_err-reserve-clause-err
returns-in_err-reserve-clause-err c =
    let P : Setting = record { program = c.self.inside.decoded; plans = c.self.inside.plans.items; shape = c.self.inside.shape; fuel = c.self.inside.fuel } in
    let same : record { state = state_of P c.reserve.new.self; made = c.self.inside.made } ≡ c.args.self.now = ap (λ (S : State). let m : Made = record { state = S; made = c.self.inside.made } in m) (c.reserve.ensures.state P) ∙ c.self.view_is in
    search rules

pub act-stepped-requires-clause-whole : goal.act-stepped-requires-clause-whole
act-stepped-requires-clause-whole c =
    let P : Setting = record { program = c.self.inside.decoded; plans = c.self.inside.plans.items; shape = c.self.inside.shape; fuel = c.self.inside.fuel } in
    let few : c.self.inside.made < 4000000000 = rw (← c.self.view_is) at c.requires.made in
    rw (c.context_of-context.ensures, c.reserve.ensures.state P) (whole-kept (state_of P c.self.inside.content) c.self.inside.made c.self.invariant.0 few)

pub act-stepped-requires-clause-known : goal.act-stepped-requires-clause-known
act-stepped-requires-clause-known c =
    let P : Setting = record { program = c.self.inside.decoded; plans = c.self.inside.plans.items; shape = c.self.inside.shape; fuel = c.self.inside.fuel } in
    rw c.context_of-context.ensures (c.reserve.ensures.own ∙ c.self.invariant.1 ∙ ap (λ (S : State). in_row (map (own_event P) S.nodes)) (sym (c.reserve.ensures.state P)))

pub act-stepped-requires-clause-may : goal.act-stepped-requires-clause-may
act-stepped-requires-clause-may c =
    let P : Setting = record { program = c.self.inside.decoded; plans = c.self.inside.plans.items; shape = c.self.inside.shape; fuel = c.self.inside.fuel } in
    let may : enabled (state_of P c.self.inside.content) c.args.event ≡ true = rw (← c.self.view_is) at c.requires.may in
    rw (c.context_of-context.ensures, c.reserve.ensures.state P) may

pub invariant_of-self-2 : goal.invariant_of-self-2
invariant_of-self-2 c =
    let P : Setting = record { program = c.self.inside.decoded; plans = c.self.inside.plans.items; shape = c.self.inside.shape; fuel = c.self.inside.fuel } in
    let may : enabled (state_of P c.self.inside.content) c.args.event ≡ true = rw (← c.self.view_is) at c.requires.may in
    let is : state_of P c.act-stepped.new.self ≡ next (state_of P c.self.inside.content) c.args.event = rw (c.context_of-context.ensures, c.reserve.ensures.state P) at c.act-stepped.ensures.state in
    (kept-next (state_of P c.self.inside.content) (state_of P c.act-stepped.new.self) c.self.inside.made c.args.event c.self.invariant.0 may is, rw c.context_of-context.ensures at c.act-stepped.ensures.known)

pub returns-clause-state : goal.returns-clause-state
returns-clause-state c =
    let P : Setting = record { program = c.self.inside.decoded; plans = c.self.inside.plans.items; shape = c.self.inside.shape; fuel = c.self.inside.fuel } in
    let is : state_of P c.act-stepped.new.self ≡ next (state_of P c.self.inside.content) c.args.event = rw (c.context_of-context.ensures, c.reserve.ensures.state P) at c.act-stepped.ensures.state in
    rw (← c.self.view_is) is

pub returns-clause-observed : goal.returns-clause-observed
returns-clause-observed c =
    let P : Setting = record { program = c.self.inside.decoded; plans = c.self.inside.plans.items; shape = c.self.inside.shape; fuel = c.self.inside.fuel } in
    let is : c.act-stepped.result ≡ observed (state_of P c.self.inside.content) c.args.event = rw (c.context_of-context.ensures, c.reserve.ensures.state P) at c.act-stepped.ensures.observed in
    rw (← c.self.view_is) is
