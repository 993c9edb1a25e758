use Rattle.std.proofs.Common.{◌≡◌, ◌<◌, length, slice_get, Some, refl, ap, sym, subst, ◌∙◌, rules}
use Rattle.message_net.specs.declared.event.Event.TheVariants.{Instr}
use Rattle.std.proofs.lemmas.Option.{same_Some}
use Rattle.registration_protocol.specs.Node.{NodeParts}
use Rattle.registration_protocol.specs.Messages.{node_gets}
use Rattle.registration_protocol.specs.OwnEvents.{own_event}
use Rattle.registration_protocol.specs.Setting.{setting}
use Rattle.registration_protocol.specs.declared.node.Received.{Received}
use Rattle.machine_rules.specs.State.{State}
use Rattle.dn_machine.specs.Content.{state_of}
use Rattle.dn_machine.proofs.ListItems.{item, get-put}
use Rattle.dn_machine.proofs.Staying.{own-known, own-stays}
use Rattle.dn_machine.proofs.CoreEvents.{core-sent, whole-put, within-put, known-after}
use Rattle.dn_machine.proofs.content.Content.core_gets.Goals as goal

pub receive_at-received-requires-clause-fits : goal.receive_at-received-requires-clause-fits
receive_at-received-requires-clause-fits c = λ n here. c.requires.whole.fits c.args.core.0 n here

pub core_got-requires-clause-whole : goal.core_got-requires-clause-whole
core_got-requires-clause-whole c =
    let within : c.args.core.0 < length c.args.self.now.nodes.items = search rules in
    let there = item c.args.self.now.nodes.items c.args.core.0 within in
    let does = c.receive_at-received.ensures there.0 there.1 in
    whole-put (state_of (setting c.args.context.now) c.args.self.now) c.args.core.0 _ _ does.0 c.requires.whole within does.2

pub core_got-requires-clause-core : goal.core_got-requires-clause-core
core_got-requires-clause-core c =
    let within : c.args.core.0 < length c.args.self.now.nodes.items = search rules in
    let there = item c.args.self.now.nodes.items c.args.core.0 within in
    let does = c.receive_at-received.ensures there.0 there.1 in
    within-put c.args.self.now.nodes.items c.args.core.0 _ _ does.0 within

pub core_got-requires-clause-stays : goal.core_got-requires-clause-stays
core_got-requires-clause-stays c = λ n e here has.
    let C = setting c.args.context.now in
    let within : c.args.core.0 < length c.args.self.now.nodes.items = search rules in
    let there = item c.args.self.now.nodes.items c.args.core.0 within in
    let does = c.receive_at-received.ensures there.0 there.1 in
    let m = (node_gets C there.0 c.args.message.now).0 in
    let was = own-known C c.args.self.now.nodes.items c.args.self.now.own c.args.core.0 there.0 (Some (Instr e)) c.requires.known there.1 has in
    let put : slice_get c.receive_at-received.new.nodes.items c.args.core.0 ≡ Some m = rw does.0 (get-put c.args.self.now.nodes.items c.args.core.0 m within) in
    let same : m ≡ n = same_Some m n (sym put ∙ here) in
    subst (λ (x : NodeParts). own_event C x ≡ Some (Instr e)) same (own-stays C there.0 c.args.message.now e (c.requires.whole.fits c.args.core.0 there.0 there.1) was)

pub returns-clause-state : goal.returns-clause-state
returns-clause-state c =
    let within : c.args.core.0 < length c.args.self.now.nodes.items = search rules in
    let there = item c.args.self.now.nodes.items c.args.core.0 within in
    let does = c.receive_at-received.ensures there.0 there.1 in
    c.core_got.ensures.state ∙ (core-sent (state_of (setting c.args.context.now) c.args.self.now) c.args.core _ _ _ _ does.0 (ap (λ (r : Received). r.sent) does.1) ∙ (rw there.1 refl))

pub returns-clause-granted : goal.returns-clause-granted
returns-clause-granted c =
    let within : c.args.core.0 < length c.args.self.now.nodes.items = search rules in
    let there = item c.args.self.now.nodes.items c.args.core.0 within in
    let does = c.receive_at-received.ensures there.0 there.1 in
    ap (λ (r : Received). r.granted) does.1 ∙ (rw there.1 refl)

pub returns-clause-known : goal.returns-clause-known
returns-clause-known c =
    let within : c.args.core.0 < length c.args.self.now.nodes.items = search rules in
    let there = item c.args.self.now.nodes.items c.args.core.0 within in
    let does = c.receive_at-received.ensures there.0 there.1 in
    known-after (setting c.args.context.now) c.args.self.now.nodes.items c.args.self.now.own c.args.core.0 _ _ _ _ c.requires.known within does.0 (ap (λ (S : State). S.nodes) c.core_got.ensures.state) c.core_got.ensures.own
