use Rattle.std.proofs.Common.{◌≡◌, ◌++◌, true, IfSome, List, map, Option, Some, None, refl, sym, ap, ◌∙◌}
use Rattle.message_net.specs.declared.event.Event.{Event}
use Rattle.registration_protocol.specs.Node.{Setting}
use Rattle.registration_protocol.specs.OwnEvents.{own_event}
use Rattle.machine_rules.specs.Next.{enabled}
use Rattle.machine_rules.specs.Sound.{IsMachine}
use Rattle.dn_machine.specs.Pick.{known_events, handlings, picked, pick}
use Rattle.dn_machine.proofs.OwnRow.{known-row}
use Rattle.dn_machine.proofs.PickLaws.{pick-comes, pick-none, over-pick}
use Rattle.dn_machine.proofs.machine.Machine.pick.Goals as goal

machine-of : (c : goal.After-pick_from) → IsMachine c.args.self.now.state
machine-of c = rw (← c.self.view_is) c.self.invariant.0.sound.machine

picked-in : (c : goal.After-pick_from) → c.pick_from.result ≡ pick c.args.self.now.state c.args.draw
unfolding pick
picked-in c =
    let P : Setting = record { program = c.self.inside.decoded; plans = c.self.inside.plans.items; shape = c.self.inside.shape; fuel = c.self.inside.fuel } in
    let known : known_events c.self.inside.content.own ≡ known_events (map (own_event P) c.self.inside.content.nodes.items) =
    ap known_events c.self.invariant.1 ∙ known-row (map (own_event P) c.self.inside.content.nodes.items)
    in
    rw (← c.self.view_is)
    (c.pick_from.ensures ∙ ap (λ (events : List Event). picked (events ++ handlings c.self.inside.content.pool.mails) c.args.draw) known)

pub returns-clause-picked : goal.returns-clause-picked
returns-clause-picked c = picked-in c

pub returns-clause-comes : goal.returns-clause-comes
returns-clause-comes c = by_result c.pick_from.result refl where
  by_result : (o : Option Event) → c.pick_from.result ≡ o → IfSome o (λ event. enabled c.args.self.now.state event ≡ true)
  by_result None is = tt
  by_result (Some e) is = pick-comes c.args.self.now.state c.args.draw e (machine-of c) (sym (picked-in c) ∙ is)

pub returns-clause-none : goal.returns-clause-none
returns-clause-none c =
    (λ none. pick-none c.args.self.now.state c.args.draw (machine-of c) (sym (picked-in c) ∙ none), λ over. picked-in c ∙ over-pick c.args.self.now.state c.args.draw (machine-of c) over)
