use Rattle.std.proofs.Common.{◌≡◌, refl, sym, ap, ◌∙◌}
use Rattle.std.proofs.lemmas.Option.{slice_get_within}
use Rattle.registration_protocol.specs.Setting.{setting}
use Rattle.registration_protocol.specs.declared.node.Step.{Step}
use Rattle.machine_rules.specs.State.{State}
use Rattle.dn_machine.specs.Content.{state_of}
use Rattle.dn_machine.proofs.CoreEvents.{instr-there, instr-next, instr-told, core-sent, whole-put, within-put, known-after}
use Rattle.dn_machine.proofs.content.Content.compute.Goals as goal

pub compute_at-requires-clause-place : goal.compute_at-requires-clause-place
compute_at-requires-clause-place c =
    let there = instr-there (state_of (setting c.args.context.now) c.args.self.now) c.args.core c.requires.may in
    slice_get_within _ _ there.0 there.1

pub compute_at-requires-clause-fits : goal.compute_at-requires-clause-fits
compute_at-requires-clause-fits c = λ n here. c.requires.whole.fits c.args.core.0 n here

pub compute_at-requires-clause-may : goal.compute_at-requires-clause-may
compute_at-requires-clause-may c = λ n here.
    let there = instr-there (state_of (setting c.args.context.now) c.args.self.now) c.args.core c.requires.may in
    let same : there.0 ≡ n = cc in
    rw same at there.2

pub core_sends-requires-clause-whole : goal.core_sends-requires-clause-whole
core_sends-requires-clause-whole c =
    let there = instr-there (state_of (setting c.args.context.now) c.args.self.now) c.args.core c.requires.may in
    let does = c.compute_at.ensures.done c.if-not-compute_at.false there.0 there.1 in
    whole-put (state_of (setting c.args.context.now) c.args.self.now) c.args.core.0 _ _ does.0 c.requires.whole (slice_get_within _ _ there.0 there.1) does.2

pub core_sends-requires-clause-core : goal.core_sends-requires-clause-core
core_sends-requires-clause-core c =
    let there = instr-there (state_of (setting c.args.context.now) c.args.self.now) c.args.core c.requires.may in
    let does = c.compute_at.ensures.done c.if-not-compute_at.false there.0 there.1 in
    within-put c.args.self.now.nodes.items c.args.core.0 _ _ does.0 (slice_get_within _ _ there.0 there.1)

pub returns-clause-state : goal.returns-clause-state
returns-clause-state c = λ _.
    let there = instr-there (state_of (setting c.args.context.now) c.args.self.now) c.args.core c.requires.may in
    let does = c.compute_at.ensures.done c.if-not-compute_at.false there.0 there.1 in
    c.core_sends.ensures.state ∙ (core-sent (state_of (setting c.args.context.now) c.args.self.now) c.args.core _ _ _ _ does.0 (ap (λ (s : Step). s.sent) does.1) ∙ sym (instr-next (state_of (setting c.args.context.now) c.args.self.now) c.args.core there.0 there.1))

pub returns-clause-known : goal.returns-clause-known
returns-clause-known c = λ _.
    let there = instr-there (state_of (setting c.args.context.now) c.args.self.now) c.args.core c.requires.may in
    let does = c.compute_at.ensures.done c.if-not-compute_at.false there.0 there.1 in
    known-after (setting c.args.context.now) c.args.self.now.nodes.items c.args.self.now.own c.args.core.0 _ _ _ _ c.requires.known (slice_get_within _ _ there.0 there.1) does.0 (ap (λ (S : State). S.nodes) c.core_sends.ensures.state) c.core_sends.ensures.own

pub returns-clause-observed : goal.returns-clause-observed
returns-clause-observed c = λ _.
    let there = instr-there (state_of (setting c.args.context.now) c.args.self.now) c.args.core c.requires.may in
    let does = c.compute_at.ensures.done c.if-not-compute_at.false there.0 there.1 in
    rw (instr-told (state_of (setting c.args.context.now) c.args.self.now) c.args.core there.0 there.1, ap (λ (s : Step). s.seen) does.1) refl
