use Rattle.std.proofs.Common.{◌≡◌, ◌<◌, map, sym, ap, subst, ◌∙◌, rules}
use Rattle.registration_protocol.specs.Node.{Setting}
use Rattle.registration_protocol.specs.OwnEvents.{own_event}
use Rattle.machine_rules.specs.State.{State}
use Rattle.dn_machine.specs.Kept.{Made, IsKept}
use Rattle.dn_machine.specs.Content.{state_of, in_row}
use Rattle.dn_machine.specs.Tried.{IsTried}
use Rattle.dn_machine.proofs.KeptLemmas.{whole-kept}
use Rattle.dn_machine.proofs.TriedLemmas.{tried-some, tried-none}
use Rattle.dn_machine.proofs.machine.Machine.try_step.Goals as goal

pub invariant_of-self : goal.invariant_of-self
invariant_of-self c =
    let P : Setting = record { program = c.self.inside.decoded; plans = c.self.inside.plans.items; shape = c.self.inside.shape; fuel = c.self.inside.fuel } in
    (rw (c.reserve_by_id.ensures.state P) c.self.invariant.0, c.reserve_by_id.ensures.own ∙ c.self.invariant.1 ∙ ap (λ (S : State). in_row (map (own_event P) S.nodes)) (sym (c.reserve_by_id.ensures.state P)))

pub returns-in_err-reserve_by_id-clause-err : goal.returns-in_err-reserve_by_id-clause-err
returns-in_err-reserve_by_id-clause-err c =
    let P : Setting = record { program = c.self.inside.decoded; plans = c.self.inside.plans.items; shape = c.self.inside.shape; fuel = c.self.inside.fuel } in
    let same : record { state = state_of P c.reserve_by_id.new.self; made = c.self.inside.made } ≡ c.args.self.now = ap (λ (S : State). let m : Made = record { state = S; made = c.self.inside.made } in m) (c.reserve_by_id.ensures.state P) ∙ c.self.view_is in
    search rules

pub try_event-came-requires-clause-whole : goal.try_event-came-requires-clause-whole
try_event-came-requires-clause-whole c =
    let P : Setting = record { program = c.self.inside.decoded; plans = c.self.inside.plans.items; shape = c.self.inside.shape; fuel = c.self.inside.fuel } in
    let few : c.self.inside.made < 4000000000 = rw (← c.self.view_is) at c.requires.made in
    rw (c.context_of-context.ensures, c.reserve_by_id.ensures.state P) (whole-kept (state_of P c.self.inside.content) c.self.inside.made c.self.invariant.0 few)

pub try_event-came-requires-clause-known : goal.try_event-came-requires-clause-known
try_event-came-requires-clause-known c =
    let P : Setting = record { program = c.self.inside.decoded; plans = c.self.inside.plans.items; shape = c.self.inside.shape; fuel = c.self.inside.fuel } in
    rw c.context_of-context.ensures (c.reserve_by_id.ensures.own ∙ c.self.invariant.1 ∙ ap (λ (S : State). in_row (map (own_event P) S.nodes)) (sym (c.reserve_by_id.ensures.state P)))

pub invariant_of-self-then-is_some : goal.invariant_of-self-then-is_some
invariant_of-self-then-is_some c =
    let P : Setting = record { program = c.self.inside.decoded; plans = c.self.inside.plans.items; shape = c.self.inside.shape; fuel = c.self.inside.fuel } in
    let tried : IsTried (state_of P c.self.inside.content) (state_of P c.try_event-came.new.self) c.args.event c.try_event-came.result = rw (c.context_of-context.ensures, c.reserve_by_id.ensures.state P) at c.try_event-came.ensures.tried in (
      tried-some (state_of P c.self.inside.content) (state_of P c.try_event-came.new.self) c.self.inside.made c.args.event c.try_event-came.result c.self.invariant.0 tried (sym c.is_some.ensures ∙ c.if-is_some.true),
      rw c.context_of-context.ensures at c.try_event-came.ensures.known,
    )

pub invariant_of-self-else-is_some : goal.invariant_of-self-else-is_some
invariant_of-self-else-is_some c =
    let P : Setting = record { program = c.self.inside.decoded; plans = c.self.inside.plans.items; shape = c.self.inside.shape; fuel = c.self.inside.fuel } in
    let tried : IsTried (state_of P c.self.inside.content) (state_of P c.try_event-came.new.self) c.args.event c.try_event-came.result = rw (c.context_of-context.ensures, c.reserve_by_id.ensures.state P) at c.try_event-came.ensures.tried in
    let same = tried-none (state_of P c.self.inside.content) (state_of P c.try_event-came.new.self) c.args.event c.try_event-came.result tried (sym c.is_some.ensures ∙ c.if-is_some.false) in
    (subst (λ (S : State). IsKept S c.self.inside.made) (sym same) c.self.invariant.0, rw c.context_of-context.ensures at c.try_event-came.ensures.known)

pub returns-then-is_some-clause-tried : goal.returns-then-is_some-clause-tried
returns-then-is_some-clause-tried c =
    let P : Setting = record { program = c.self.inside.decoded; plans = c.self.inside.plans.items; shape = c.self.inside.shape; fuel = c.self.inside.fuel } in
    let tried : IsTried (state_of P c.self.inside.content) (state_of P c.try_event-came.new.self) c.args.event c.try_event-came.result = rw (c.context_of-context.ensures, c.reserve_by_id.ensures.state P) at c.try_event-came.ensures.tried in
    subst (λ (m : Made). IsTried m.state (state_of P c.try_event-came.new.self) c.args.event c.try_event-came.result) c.self.view_is tried

pub returns-else-is_some-clause-tried : goal.returns-else-is_some-clause-tried
returns-else-is_some-clause-tried c =
    let P : Setting = record { program = c.self.inside.decoded; plans = c.self.inside.plans.items; shape = c.self.inside.shape; fuel = c.self.inside.fuel } in
    let tried : IsTried (state_of P c.self.inside.content) (state_of P c.try_event-came.new.self) c.args.event c.try_event-came.result = rw (c.context_of-context.ensures, c.reserve_by_id.ensures.state P) at c.try_event-came.ensures.tried in
    subst (λ (m : Made). IsTried m.state (state_of P c.try_event-came.new.self) c.args.event c.try_event-came.result) c.self.view_is tried

pub returns-else-is_some-clause-none : goal.returns-else-is_some-clause-none
returns-else-is_some-clause-none c = λ none.
    let P : Setting = record { program = c.self.inside.decoded; plans = c.self.inside.plans.items; shape = c.self.inside.shape; fuel = c.self.inside.fuel } in
    let tried : IsTried (state_of P c.self.inside.content) (state_of P c.try_event-came.new.self) c.args.event c.try_event-came.result = rw (c.context_of-context.ensures, c.reserve_by_id.ensures.state P) at c.try_event-came.ensures.tried in
    let same = tried-none (state_of P c.self.inside.content) (state_of P c.try_event-came.new.self) c.args.event c.try_event-came.result tried (sym c.is_some.ensures ∙ c.if-is_some.false) in
    ap (λ (S : State). let m : Made = record { state = S; made = c.self.inside.made } in m) same ∙ c.self.view_is
