use Rattle.std.proofs.Common.{◌≡◌, [], ◌∷◌, ◌++◌, length, length-append, Bool, Some, None, Ok, sym, ap, ◌∙◌, arith}
use Rattle.message_net.specs.declared.event.Event.{Event}
use Rattle.registration_protocol.specs.Setting.{setting}
use Rattle.machine_rules.specs.State.{initial_state}
use Rattle.dn_machine.specs.declared.log.Log.{Log}
use Rattle.dn_machine.specs.Content.{state_of}
use Rattle.dn_machine.specs.Pick.{pick}
use Rattle.dn_machine.specs.Schedule.{word_of}
use Rattle.dn_machine.proofs.KeptLemmas.{whole-kept}
use Rattle.dn_machine.proofs.LogLemmas.{count-within}
use Rattle.dn_machine.proofs.RunLemmas.{ready-of, begins, goes-on, ends, way-few}
use Rattle.dn_machine.proofs.content.Content.run.Goals as goal

pub advance-requires-clause-whole : goal.advance-requires-clause-whole
advance-requires-clause-whole c =
    let C = setting c.args.context.now in
    let S = state_of C c.events.self in
    let way = c.events.invariant.way in
    let few = way-few C c.args.seed c.events.words S c.events.log (ready-of S (length c.events.log.events) way.kept) way in
    whole-kept S (length c.events.log.events) way.kept (omega (arith, few))

pub advance-requires-clause-few : goal.advance-requires-clause-few
advance-requires-clause-few c = λ kind.
    let C = setting c.args.context.now in
    let S = state_of C c.events.self in
    let way = c.events.invariant.way in
    let few = way-few C c.args.seed c.events.words S c.events.log (ready-of S (length c.events.log.events) way.kept) way in
    omega (arith, few, count-within (initial_state C) c.events.log.events c.events.log.counts kind way.logged.counted)

pub events-smaller : goal.events-smaller
events-smaller c =
    let C = setting c.args.context.now in
    let S = state_of C c.events.self in
    let way = c.events.invariant.way in
    let few = way-few C c.args.seed c.events.words S c.events.log (ready-of S (length c.events.log.events) way.kept) way in
    let came = c.advance.ensures.came (c.in_ok-advance.was ∙ ap (λ (b : Bool). Ok b) c.if-branch.true) in
    let told = came.2.told in
    let more : length c.advance.new.log.events ≡ length (c.events.log.events ++ told.event ∷ []) = ap (λ (l : Log). length l.events) came.2.noted in
    omega (arith, few, more, length-append c.events.log.events (told.event ∷ []))

pub events-init : goal.events-init
events-init c =
    let C = setting c.args.context.now in
    record { way = rw (c.generator-words.ensures, c.requires.empty) (begins C c.args.seed (state_of C c.args.self.now) c.requires.initial c.requires.kept); known = c.requires.known }

pub events-preserved : goal.events-preserved
events-preserved c =
    let C = setting c.args.context.now in
    let S = state_of C c.events.self in
    let T = state_of C c.advance.new.self in
    let came = c.advance.ensures.came (c.in_ok-advance.was ∙ ap (λ (b : Bool). Ok b) c.if-branch.true) in
    let told = came.2.told in
    let picks : pick S (word_of c.events.words) ≡ Some told.event = ap (pick S) (sym c.draw.ensures.word) ∙ came.1 ∙ ap (λ (e : Event). Some e) (sym came.2.event) in
    record { way = rw (came.2.noted, c.draw.ensures.rest) (goes-on C c.args.seed c.events.words S T c.events.log told c.events.invariant.way picks came.2.came); known = c.advance.ensures.known }

pub returns : goal.returns
returns c =
    let C = setting c.args.context.now in
    let S = state_of C c.events.self in
    let over = c.advance.ensures.over (c.in_ok-advance.was ∙ ap (λ (b : Bool). Ok b) c.if-branch.false) in
    let none : pick S (word_of c.events.words) ≡ None = ap (pick S) (sym c.draw.ensures.word) ∙ over.0 in
    rw (over.1, over.2) (ends C c.args.seed c.events.words S c.events.log c.events.invariant.way none)
