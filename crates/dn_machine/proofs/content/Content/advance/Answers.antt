use Rattle.std.proofs.Common.{◌≡◌, List, map, Option, Some, None, sym, ap, subst, ◌∙◌}
use Rattle.message_net.specs.declared.event.Event.{Event}
use Rattle.registration_protocol.specs.Node.{Setting}
use Rattle.registration_protocol.specs.OwnEvents.{own_event}
use Rattle.registration_protocol.specs.Setting.{setting}
use Rattle.machine_rules.specs.State.{State}
use Rattle.machine_rules.specs.Sound.{IsMachine}
use Rattle.dn_machine.specs.Content.{state_of, in_row, IsWhole}
use Rattle.dn_machine.specs.Log.{CameAndNoted}
use Rattle.dn_machine.specs.Pick.{pick}
use Rattle.dn_machine.proofs.content.Content.advance.Goals as goal

still : (C : Setting) (S T : State) (own old : List (Option Event)) → own ≡ old → old ≡ in_row (map (own_event C) S.nodes) → T ≡ S → own ≡ in_row (map (own_event C) T.nodes)
still C S T own old kept known same = kept ∙ known ∙ ap (λ (x : State). in_row (map (own_event C) x.nodes)) (sym same)

pub returns-in_err-reserve-clause-known : goal.returns-in_err-reserve-clause-known
returns-in_err-reserve-clause-known c =
    still (setting c.args.context.now) (state_of (setting c.args.context.now) c.args.self.now) (state_of (setting c.args.context.now) c.reserve.new.self) c.reserve.new.self.own c.args.self.now.own c.reserve.ensures.own c.requires.known
    (c.reserve.ensures.state (setting c.args.context.now))

pub make-requires-clause-machine : goal.make-requires-clause-machine
make-requires-clause-machine c = subst IsMachine (sym (c.reserve.ensures.state (setting c.args.context.now))) c.requires.machine

pub make-requires-clause-whole : goal.make-requires-clause-whole
make-requires-clause-whole c = subst IsWhole (sym (c.reserve.ensures.state (setting c.args.context.now))) c.requires.whole

pub make-requires-clause-known : goal.make-requires-clause-known
make-requires-clause-known c =
    still (setting c.args.context.now) (state_of (setting c.args.context.now) c.args.self.now) (state_of (setting c.args.context.now) c.reserve.new.self) c.reserve.new.self.own c.args.self.now.own c.reserve.ensures.own c.requires.known
    (c.reserve.ensures.state (setting c.args.context.now))

pub returns-clause-over : goal.returns-clause-over
returns-clause-over c is =
    let same = c.reserve.ensures.state (setting c.args.context.now) in
    let over = c.make.ensures.over is in
    (subst (λ (S : State). pick S c.args.draw ≡ None) same over.0, over.1 ∙ same, over.2)

pub returns-clause-came : goal.returns-clause-came
returns-clause-came c is =
    let T = state_of (setting c.args.context.now) c.make.new.self in
    let same = c.reserve.ensures.state (setting c.args.context.now) in
    let came = c.make.ensures.came is in
    (came.0, subst (λ (S : State). pick S c.args.draw ≡ Some came.0) same came.1, subst (λ (S : State). CameAndNoted S T came.0 c.args.log.now c.make.new.log) same came.2)
