use Rattle.std.proofs.Common.{◌≡◌, ◌+◌, ◌≤◌, true, length, get_or, slice_get, Some, refl, sym, ap, subst, ◌∙◌, arith}
use Rattle.std.proofs.lemmas.Option.{slice_get-get_or}
use Rattle.std.specs.Int.{IsInRange}
use Rattle.dn_base.specs.declared.ids.Shape.{Shape}
use Rattle.message_net.specs.declared.event.Event.{Event}
use Rattle.message_net.specs.declared.event.Event.TheVariants.{Instr}
use Rattle.message_net.specs.Mail.{has_actor}
use Rattle.registration_protocol.specs.Node.{Setting}
use Rattle.machine_rules.specs.State.{State, initial_state}
use Rattle.machine_rules.specs.Next.{next, next_number}
use Rattle.machine_rules.specs.Runs.{IsRun}
use Rattle.machine_rules.specs.Sound.{IsReady}
use Rattle.run_timing.specs.Rows.{finish_in}
use Rattle.run_timing.specs.Tracks.{last_at, sender_in}
use Rattle.run_timing.proofs.Growing.{can-note, mails-noted, start-within, start-soon, run-none, run-more, run-end, run-led}
use Rattle.run_timing.proofs.Started.{ready-of}
use Rattle.run_timing.proofs.Timed.{at-event}
use Rattle.run_timing.proofs.running.note_run.Goals as goal

pub handled_delay-delay-requires : goal.handled_delay-delay-requires
handled_delay-delay-requires c =
    let C = c.args.machine.now.state.setting in
    let E = c.args.events.now in
    let n = c.loop-event.event-index in
    let e : Event = get_or E n (Instr (record { 0 = 0 })) in
    let ready : IsReady C = ready-of c.args.machine.now.state c.args.machine.now.made c.a_machine_is_kept.ensures in
    let run : IsRun (initial_state C) E = subst (λ (S : State). IsRun S E) c.requires.initial c.requires.run in
    let here : slice_get E n ≡ Some e = slice_get-get_or E n (Instr (record { 0 = 0 })) c.loop-event-test.true in
    let can = can-note c.args.ticks.now C c.args.shape E n c.loop-event.machine.state c.loop-event.machine.made c.loop-event.tracks.last c.loop-event.tracks.senders.items c.loop-event.rows e c.in_ok-happened.happened.actor c.index-index.result c.requires.shape ready run c.requires.few c.loop-event.invariant.timed c.loop-event-test.true here c.in_ok-happened.ensures.actor c.index-index.ensures in
    let kept = c.a_machine_is_kept.ensures in
    record {
      from = can.from;
      to = can.there;
      cores = subst (λ (s : Shape). s.cores ≤ 16) c.requires.shape kept.most;
      banks = subst (λ (s : Shape). IsInRange 1 16 s.banks) c.requires.shape (omega (arith, ready.context.some_banks), ready.context.most_banks);
      latency = c.requires.ticks.messages;
    }

pub start-start-requires : goal.start-start-requires
start-start-requires c =
    let C = c.args.machine.now.state.setting in
    let E = c.args.events.now in
    let n = c.loop-event.event-index in
    let e : Event = get_or E n (Instr (record { 0 = 0 })) in
    let ready : IsReady C = ready-of c.args.machine.now.state c.args.machine.now.made c.a_machine_is_kept.ensures in
    let run : IsRun (initial_state C) E = subst (λ (S : State). IsRun S E) c.requires.initial c.requires.run in
    let here : slice_get E n ≡ Some e = slice_get-get_or E n (Instr (record { 0 = 0 })) c.loop-event-test.true in
    let can = can-note c.args.ticks.now C c.args.shape E n c.loop-event.machine.state c.loop-event.machine.made c.loop-event.tracks.last c.loop-event.tracks.senders.items c.loop-event.rows e c.in_ok-happened.happened.actor c.index-index.result c.requires.shape ready run c.requires.few c.loop-event.invariant.timed c.loop-event-test.true here c.in_ok-happened.ensures.actor c.index-index.ensures in
    record { place = can.last_within; own = can.own; sender = can.sender; small = can.small; delay = c.handled_delay-delay.ensures.most }

pub make-requires : goal.make-requires
make-requires c =
    let C = c.args.machine.now.state.setting in
    let E = c.args.events.now in
    let n = c.loop-event.event-index in
    let e : Event = get_or E n (Instr (record { 0 = 0 })) in
    let ready : IsReady C = ready-of c.args.machine.now.state c.args.machine.now.made c.a_machine_is_kept.ensures in
    let run : IsRun (initial_state C) E = subst (λ (S : State). IsRun S E) c.requires.initial c.requires.run in
    let here : slice_get E n ≡ Some e = slice_get-get_or E n (Instr (record { 0 = 0 })) c.loop-event-test.true in
    let now = at-event c.args.ticks.now C E n c.loop-event.machine.state c.loop-event.machine.made c.loop-event.tracks.last c.loop-event.tracks.senders.items c.loop-event.rows e ready run c.loop-event.invariant.timed here in
    record { may = now.may; made = omega (arith, c.loop-event.invariant.timed.counts, c.loop-event-test.true, c.requires.few) }

pub sent_since-sent-requires : goal.sent_since-sent-requires
sent_since-sent-requires c =
    let C = c.args.machine.now.state.setting in
    let E = c.args.events.now in
    let n = c.loop-event.event-index in
    let e : Event = get_or E n (Instr (record { 0 = 0 })) in
    let a = c.in_ok-happened.happened.actor in
    let ready : IsReady C = ready-of c.args.machine.now.state c.args.machine.now.made c.a_machine_is_kept.ensures in
    let run : IsRun (initial_state C) E = subst (λ (S : State). IsRun S E) c.requires.initial c.requires.run in
    let here : slice_get E n ≡ Some e = slice_get-get_or E n (Instr (record { 0 = 0 })) c.loop-event-test.true in
    let now = at-event c.args.ticks.now C E n c.loop-event.machine.state c.loop-event.machine.made c.loop-event.tracks.last c.loop-event.tracks.senders.items c.loop-event.rows e ready run c.loop-event.invariant.timed here in
    let same : c.make.new.machine.state.setting ≡ c.loop-event.machine.state.setting = ap (λ (S : State). S.setting) c.in_ok-happened.ensures.state ∙ now.still in
    let noted = mails-noted c.args.ticks.now C c.args.shape E n c.loop-event.machine.state c.loop-event.machine.made c.loop-event.tracks.last c.loop-event.tracks.senders.items c.loop-event.rows e a c.index-index.result c.requires.shape ready run c.loop-event.invariant.timed here c.in_ok-happened.ensures.actor c.index-index.ensures in
    let moved : next_number c.make.new.machine.state a ≡ next_number (next c.loop-event.machine.state e) a = ap (λ (S : State). next_number S a) c.in_ok-happened.ensures.state in
    record {
      there = subst (λ (X : Setting). has_actor X.shape.cores X.shape.banks a ≡ true) (sym same) (now.there a c.in_ok-happened.ensures.actor);
      grows = omega (arith, noted, moved, now.grows a c.in_ok-happened.ensures.actor);
    }

pub note-requires : goal.note-requires
note-requires c =
    let C = c.args.machine.now.state.setting in
    let E = c.args.events.now in
    let n = c.loop-event.event-index in
    let e : Event = get_or E n (Instr (record { 0 = 0 })) in
    let ready : IsReady C = ready-of c.args.machine.now.state c.args.machine.now.made c.a_machine_is_kept.ensures in
    let run : IsRun (initial_state C) E = subst (λ (S : State). IsRun S E) c.requires.initial c.requires.run in
    let here : slice_get E n ≡ Some e = slice_get-get_or E n (Instr (record { 0 = 0 })) c.loop-event-test.true in
    let can = can-note c.args.ticks.now C c.args.shape E n c.loop-event.machine.state c.loop-event.machine.made c.loop-event.tracks.last c.loop-event.tracks.senders.items c.loop-event.rows e c.in_ok-happened.happened.actor c.index-index.result c.requires.shape ready run c.requires.few c.loop-event.invariant.timed c.loop-event-test.true here c.in_ok-happened.ensures.actor c.index-index.ensures in
    record { last = can.last_within; senders = can.senders_within }

pub note_row-requires : goal.note_row-requires
note_row-requires c =
    let C = c.args.machine.now.state.setting in
    let E = c.args.events.now in
    let n = c.loop-event.event-index in
    let e : Event = get_or E n (Instr (record { 0 = 0 })) in
    let ready : IsReady C = ready-of c.args.machine.now.state c.args.machine.now.made c.a_machine_is_kept.ensures in
    let run : IsRun (initial_state C) E = subst (λ (S : State). IsRun S E) c.requires.initial c.requires.run in
    let here : slice_get E n ≡ Some e = slice_get-get_or E n (Instr (record { 0 = 0 })) c.loop-event-test.true in
    let can = can-note c.args.ticks.now C c.args.shape E n c.loop-event.machine.state c.loop-event.machine.made c.loop-event.tracks.last c.loop-event.tracks.senders.items c.loop-event.rows e c.in_ok-happened.happened.actor c.index-index.result c.requires.shape ready run c.requires.few c.loop-event.invariant.timed c.loop-event-test.true here c.in_ok-happened.ensures.actor c.index-index.ensures in
    let own = last_at c.loop-event.tracks.last c.index-index.result in
    let sender = sender_in c.args.shape.cores c.args.shape.banks c.loop-event.tracks.senders.items e in
    record {
      before = start-within (finish_in c.loop-event.rows) c.handled_delay-delay.result own sender c.start-start.result (length c.loop-event.rows.finishes) c.start-start.ensures can.own can.sender;
      few = omega (arith, c.loop-event.invariant.timed.noted.finishes, c.loop-event-test.true, c.requires.few);
      small =
          start-soon (finish_in c.loop-event.rows) c.handled_delay-delay.result own sender c.start-start.result (length c.loop-event.rows.finishes) c.start-start.ensures c.handled_delay-delay.ensures.most
          can.small can.own can.sender;
      ticks = c.requires.ticks;
    }

pub loop-event-init : goal.loop-event-init
loop-event-init c =
    record {
      timed =
          run-none c.args.ticks.now c.args.machine.now.state.setting c.args.shape c.args.events.now c.args.machine.now.state c.args.machine.now.made c.args.tracks.now.last c.args.tracks.now.senders.items c.args.rows.now
          c.requires.shape c.requires.initial c.requires.made c.requires.last c.requires.senders c.requires.rows;
      number = refl;
    }

pub loop-event-preserved : goal.loop-event-preserved
loop-event-preserved c =
    let C = c.args.machine.now.state.setting in
    let E = c.args.events.now in
    let n = c.loop-event.event-index in
    let e : Event = get_or E n (Instr (record { 0 = 0 })) in
    let ready : IsReady C = ready-of c.args.machine.now.state c.args.machine.now.made c.a_machine_is_kept.ensures in
    let run : IsRun (initial_state C) E = subst (λ (S : State). IsRun S E) c.requires.initial c.requires.run in
    let here : slice_get E n ≡ Some e = slice_get-get_or E n (Instr (record { 0 = 0 })) c.loop-event-test.true in
    let a = c.in_ok-happened.happened.actor in
    let noted = mails-noted c.args.ticks.now C c.args.shape E n c.loop-event.machine.state c.loop-event.machine.made c.loop-event.tracks.last c.loop-event.tracks.senders.items c.loop-event.rows e a c.index-index.result c.requires.shape ready run c.loop-event.invariant.timed here c.in_ok-happened.ensures.actor c.index-index.ensures in
    let moved : next_number c.make.new.machine.state a ≡ next_number (next c.loop-event.machine.state e) a = ap (λ (S : State). next_number S a) c.in_ok-happened.ensures.state in
    let counts : next_number c.loop-event.machine.state a + c.sent_since-sent.result ≡ next_number (next c.loop-event.machine.state e) a = omega (arith, noted, moved, c.sent_since-sent.ensures) in
    record {
      timed =
          run-more c.args.ticks.now C c.args.shape E n c.loop-event.machine.state c.make.new.machine.state c.loop-event.machine.made c.make.new.machine.made c.loop-event.tracks.last c.note.new.self.last
          c.loop-event.tracks.senders.items c.note.new.self.senders.items c.loop-event.rows c.note_row.new.rows e c.in_ok-happened.happened.actor c.index-index.result c.sent_since-sent.result c.loop-event.number
          c.handled_delay-delay.result c.start-start.result c.in_ok-happened.happened.kind c.requires.shape ready run c.loop-event.invariant.timed here c.in_ok-happened.ensures.actor c.requires.ticks c.index-index.ensures c.loop-event.invariant.number
          c.handled_delay-delay.ensures.value c.handled_delay-delay.ensures.most c.start-start.ensures c.in_ok-happened.ensures.kind counts c.in_ok-happened.ensures.state c.in_ok-happened.ensures.made c.in_ok-note.ensures.last c.in_ok-note.ensures.senders
          c.in_ok-note_row.ensures;
      number = omega (arith, c.loop-event.invariant.number);
    }

pub returns-clause-rows : goal.returns-clause-rows
returns-clause-rows c =
    let all : c.loop-event.event-index ≡ length c.args.events.now = omega (arith, c.loop-event-test.false, c.loop-event.auto.event-index-end) in
    run-end c.args.ticks.now c.args.machine.now.state.setting c.args.events.now c.loop-event.event-index c.args.machine.now.state c.loop-event.machine.state c.loop-event.machine.made c.loop-event.tracks.last
    c.loop-event.tracks.senders.items c.loop-event.rows c.requires.initial all c.loop-event.invariant.timed

pub returns-clause-leads : goal.returns-clause-leads
returns-clause-leads c =
    let all : c.loop-event.event-index ≡ length c.args.events.now = omega (arith, c.loop-event-test.false, c.loop-event.auto.event-index-end) in
    run-led c.args.ticks.now c.args.machine.now.state.setting c.args.events.now c.loop-event.event-index c.args.machine.now.state c.loop-event.machine.state c.loop-event.machine.made c.loop-event.tracks.last
    c.loop-event.tracks.senders.items c.loop-event.rows c.requires.initial all c.loop-event.invariant.timed
