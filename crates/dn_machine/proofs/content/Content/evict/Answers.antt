use Rattle.std.proofs.Common.{◌≡◌, slice_get, Some, sym, ap, subst, ◌∙◌}
use Rattle.std.proofs.lemmas.Option.{slice_get_within, same_Some}
use Rattle.message_net.specs.declared.event.Event.TheVariants.{Instr}
use Rattle.registration_protocol.specs.Node.{NodeParts}
use Rattle.registration_protocol.specs.OwnEvents.{evicted, me, own_event}
use Rattle.dn_machine.proofs.ListItems.{get-put}
use Rattle.dn_machine.proofs.Staying.{evicted-goes}
use Rattle.registration_protocol.specs.Setting.{setting}
use Rattle.machine_rules.specs.State.{State}
use Rattle.dn_machine.specs.Content.{state_of}
use Rattle.dn_machine.proofs.CoreEvents.{evict-there, evict-next, evict-told, core-sent, whole-put, within-put, known-after}
use Rattle.dn_machine.proofs.content.Content.evict.Goals as goal

pub evict_at-sent-requires-clause-place : goal.evict_at-sent-requires-clause-place
evict_at-sent-requires-clause-place c =
    let there = evict-there (state_of (setting c.args.context.now) c.args.self.now) c.args.core c.args.word c.requires.may in
    slice_get_within _ _ there.0 there.1

pub evict_at-sent-requires-clause-fits : goal.evict_at-sent-requires-clause-fits
evict_at-sent-requires-clause-fits c = λ n here. c.requires.whole.fits c.args.core.0 n here

pub evict_at-sent-requires-clause-may : goal.evict_at-sent-requires-clause-may
evict_at-sent-requires-clause-may c = λ n here.
    let there = evict-there (state_of (setting c.args.context.now) c.args.self.now) c.args.core c.args.word c.requires.may in
    let same : there.0 ≡ n = cc in
    rw same at there.2

pub core_evicted-requires-clause-whole : goal.core_evicted-requires-clause-whole
core_evicted-requires-clause-whole c =
    let there = evict-there (state_of (setting c.args.context.now) c.args.self.now) c.args.core c.args.word c.requires.may in
    let does = c.evict_at-sent.ensures there.0 there.1 in
    whole-put (state_of (setting c.args.context.now) c.args.self.now) c.args.core.0 _ _ does.0 c.requires.whole (slice_get_within _ _ there.0 there.1) does.2

pub core_evicted-requires-clause-core : goal.core_evicted-requires-clause-core
core_evicted-requires-clause-core c =
    let there = evict-there (state_of (setting c.args.context.now) c.args.self.now) c.args.core c.args.word c.requires.may in
    let does = c.evict_at-sent.ensures there.0 there.1 in
    within-put c.args.self.now.nodes.items c.args.core.0 _ _ does.0 (slice_get_within _ _ there.0 there.1)

pub core_evicted-requires-clause-room : goal.core_evicted-requires-clause-room
core_evicted-requires-clause-room c = λ n here silent.
    let C = setting c.args.context.now in
    let there = evict-there (state_of C c.args.self.now) c.args.core c.args.word c.requires.may in
    let does = c.evict_at-sent.ensures there.0 there.1 in
    let m = (evicted C there.0 c.args.word).0 in
    let within = slice_get_within _ _ there.0 there.1 in
    let put : slice_get c.evict_at-sent.new.nodes.items c.args.core.0 ≡ Some m = rw does.0 (get-put c.args.self.now.nodes.items c.args.core.0 m within) in
    let same : m ≡ n = same_Some m n (sym put ∙ here) in
    let goes = evicted-goes C there.0 c.args.word (c.requires.whole.fits c.args.core.0 there.0 there.1) there.2 (sym does.1 ∙ silent) in
    subst (λ (x : NodeParts). own_event C x ≡ Some (Instr (me x))) same goes

pub returns-clause-state : goal.returns-clause-state
returns-clause-state c =
    let there = evict-there (state_of (setting c.args.context.now) c.args.self.now) c.args.core c.args.word c.requires.may in
    let does = c.evict_at-sent.ensures there.0 there.1 in
    c.core_evicted.ensures.state ∙ (core-sent (state_of (setting c.args.context.now) c.args.self.now) c.args.core _ _ _ _ does.0 does.1 ∙ sym (evict-next (state_of (setting c.args.context.now) c.args.self.now) c.args.core c.args.word there.0 there.1))

pub returns-clause-known : goal.returns-clause-known
returns-clause-known c =
    let there = evict-there (state_of (setting c.args.context.now) c.args.self.now) c.args.core c.args.word c.requires.may in
    let does = c.evict_at-sent.ensures there.0 there.1 in
    known-after (setting c.args.context.now) c.args.self.now.nodes.items c.args.self.now.own c.args.core.0 _ _ _ _ c.requires.known (slice_get_within _ _ there.0 there.1) does.0 (ap (λ (S : State). S.nodes) c.core_evicted.ensures.state) c.core_evicted.ensures.own

pub returns-clause-observed : goal.returns-clause-observed
returns-clause-observed c = c.silent.ensures ∙ sym (evict-told (state_of (setting c.args.context.now) c.args.self.now) c.args.core c.args.word)
