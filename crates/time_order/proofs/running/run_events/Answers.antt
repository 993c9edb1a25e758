use Rattle.std.proofs.Common.{◌≡◌, ◌≤◌, ◌+◌, ℕ, List, Some, None, length, drop, slice_get, sym, ap, subst, ◌∙◌, arith}
use Rattle.message_net.specs.declared.message.Mail.{Mail}
use Rattle.std.specs.Prelude.{sum_by}
use Rattle.time_order.specs.Flights.{queue_at, weight_to}
use Rattle.time_order.specs.Choices.{IsFirstChoice}
use Rattle.run_replay.proofs.UnderWay.{advanced-some}
use Rattle.time_order.proofs.Turns.{on-time-none, on-time-same, on-time-more, prepared-of, at-end, at-turn, after-turn, few-noted, some-first, not-refused}
use Rattle.time_order.proofs.running.run_events.Goals as goal

pub loop-place-init : goal.loop-place-init
loop-place-init c =
    record {
      on =
          on-time-none c.args.ticks.now c.args.network.now c.args.machine.now.state.setting c.args.machine.now.state c.args.machine.now.made c.args.log.now c.shape-shape.result c.in_ok-actors.actors.free
          c.in_ok-actors.actors.queues.items c.in_ok-actors.actors.choices c.requires.initial c.requires.made c.requires.empty c.a_machine_is_kept.ensures c.shape-shape.ensures c.in_ok-actors.ensures.free
          c.in_ok-actors.ensures.queues c.in_ok-actors.ensures.choices;
      shape = c.shape-shape.ensures;
    }

pub staying-first-requires : goal.staying-first-requires
staying-first-requires c =
    let t = at-turn c.args.ticks.now c.args.network.now c.args.machine.now.state.setting c.loop-place.machine.state c.loop-place.machine.made c.loop-place.log c.first.new.self.free c.first.new.self.queues.items c.first.new.self.choices c.first.result c.in-Some.place c.in-Some.choice (on-time-same c.args.ticks.now c.args.network.now c.args.machine.now.state.setting c.loop-place.machine.state c.loop-place.machine.made c.loop-place.log c.loop-place.actors.free c.first.new.self.free c.loop-place.actors.queues.items c.first.new.self.queues.items c.loop-place.actors.choices c.first.new.self.choices c.loop-place.invariant.on c.first.ensures.free (ap (λ (q : _). q.items) c.first.ensures.queues) c.first.ensures.long) c.first.ensures.looked c.first.ensures.sorted c.first.ensures.first c.in-Some.is in
    t.chosen.may

pub advance-requires : goal.advance-requires
advance-requires c =
    let t = at-turn c.args.ticks.now c.args.network.now c.args.machine.now.state.setting c.loop-place.machine.state c.loop-place.machine.made c.loop-place.log c.first.new.self.free c.first.new.self.queues.items c.first.new.self.choices c.first.result c.in-Some.place c.in-Some.choice (on-time-same c.args.ticks.now c.args.network.now c.args.machine.now.state.setting c.loop-place.machine.state c.loop-place.machine.made c.loop-place.log c.loop-place.actors.free c.first.new.self.free c.loop-place.actors.queues.items c.first.new.self.queues.items c.loop-place.actors.choices c.first.new.self.choices c.loop-place.invariant.on c.first.ensures.free (ap (λ (q : _). q.items) c.first.ensures.queues) c.first.ensures.long) c.first.ensures.looked c.first.ensures.sorted c.first.ensures.first c.in-Some.is in
    omega (arith, t.few)

pub unreachable-requires : goal.unreachable-requires
unreachable-requires c =
    let t = at-turn c.args.ticks.now c.args.network.now c.args.machine.now.state.setting c.loop-place.machine.state c.loop-place.machine.made c.loop-place.log c.first.new.self.free c.first.new.self.queues.items c.first.new.self.choices c.first.result c.in-Some.place c.in-Some.choice (on-time-same c.args.ticks.now c.args.network.now c.args.machine.now.state.setting c.loop-place.machine.state c.loop-place.machine.made c.loop-place.log c.loop-place.actors.free c.first.new.self.free c.loop-place.actors.queues.items c.first.new.self.queues.items c.loop-place.actors.choices c.first.new.self.choices c.loop-place.invariant.on c.first.ensures.free (ap (λ (q : _). q.items) c.first.ensures.queues) c.first.ensures.long) c.first.ensures.looked c.first.ensures.sorted c.first.ensures.first c.in-Some.is in
    not-refused _ _ _ _ t.chosen.may c.in_ok-happened.ensures.advanced c.in_default-2.not-Some

pub overflow_add-finish : goal.overflow_add-finish
overflow_add-finish c =
    let t = at-turn c.args.ticks.now c.args.network.now c.args.machine.now.state.setting c.loop-place.machine.state c.loop-place.machine.made c.loop-place.log c.first.new.self.free c.first.new.self.queues.items c.first.new.self.choices c.first.result c.in-Some.place c.in-Some.choice (on-time-same c.args.ticks.now c.args.network.now c.args.machine.now.state.setting c.loop-place.machine.state c.loop-place.machine.made c.loop-place.log c.loop-place.actors.free c.first.new.self.free c.loop-place.actors.queues.items c.first.new.self.queues.items c.loop-place.actors.choices c.first.new.self.choices c.loop-place.invariant.on c.first.ensures.free (ap (λ (q : _). q.items) c.first.ensures.queues) c.first.ensures.long) c.first.ensures.looked c.first.ensures.sorted c.first.ensures.first c.in-Some.is in
    omega (arith, t.late, c.of.ensures.most)

pub note-requires : goal.note-requires
note-requires c =
    let t = at-turn c.args.ticks.now c.args.network.now c.args.machine.now.state.setting c.loop-place.machine.state c.loop-place.machine.made c.loop-place.log c.first.new.self.free c.first.new.self.queues.items c.first.new.self.choices c.first.result c.in-Some.place c.in-Some.choice (on-time-same c.args.ticks.now c.args.network.now c.args.machine.now.state.setting c.loop-place.machine.state c.loop-place.machine.made c.loop-place.log c.loop-place.actors.free c.first.new.self.free c.loop-place.actors.queues.items c.first.new.self.queues.items c.loop-place.actors.choices c.first.new.self.choices c.loop-place.invariant.on c.first.ensures.free (ap (λ (q : _). q.items) c.first.ensures.queues) c.first.ensures.long) c.first.ensures.looked c.first.ensures.sorted c.first.ensures.first c.in-Some.is in
    few-noted c.args.ticks.now c.args.network.now c.args.machine.now.state.setting c.loop-place.machine.state c.loop-place.machine.made c.loop-place.log c.first.new.self.free c.first.new.self.queues.items c.first.new.self.choices c.in-Some.place c.in-Some.choice c.in-Some-2.happened.observed.kind t

pub take_handled-requires-clause-some : goal.take_handled-requires-clause-some
take_handled-requires-clause-some c id is =
    let t = at-turn c.args.ticks.now c.args.network.now c.args.machine.now.state.setting c.loop-place.machine.state c.loop-place.machine.made c.loop-place.log c.first.new.self.free c.first.new.self.queues.items c.first.new.self.choices c.first.result c.in-Some.place c.in-Some.choice (on-time-same c.args.ticks.now c.args.network.now c.args.machine.now.state.setting c.loop-place.machine.state c.loop-place.machine.made c.loop-place.log c.loop-place.actors.free c.first.new.self.free c.loop-place.actors.queues.items c.first.new.self.queues.items c.loop-place.actors.choices c.first.new.self.choices c.loop-place.invariant.on c.first.ensures.free (ap (λ (q : _). q.items) c.first.ensures.queues) c.first.ensures.long) c.first.ensures.looked c.first.ensures.sorted c.first.ensures.first c.in-Some.is in
    let head = t.chosen.head id is in
    some-first _ head.0 head.1

pub put_sent-requires-clause-sender : goal.put_sent-requires-clause-sender
put_sent-requires-clause-sender c place m past here =
    let a = after-turn c.args.ticks.now c.args.network.now c.args.machine.now.state.setting c.loop-place.machine.state c.advance.new.machine.state c.loop-place.machine.made c.advance.new.machine.made c.loop-place.log c.first.new.self.free c.first.new.self.queues.items c.first.new.self.choices c.in-Some.place c.in-Some.choice c.in-Some-2.happened c.shape-shape.result c.staying-first.result (at-turn c.args.ticks.now c.args.network.now c.args.machine.now.state.setting c.loop-place.machine.state c.loop-place.machine.made c.loop-place.log c.first.new.self.free c.first.new.self.queues.items c.first.new.self.choices c.first.result c.in-Some.place c.in-Some.choice (on-time-same c.args.ticks.now c.args.network.now c.args.machine.now.state.setting c.loop-place.machine.state c.loop-place.machine.made c.loop-place.log c.loop-place.actors.free c.first.new.self.free c.loop-place.actors.queues.items c.first.new.self.queues.items c.loop-place.actors.choices c.first.new.self.choices c.loop-place.invariant.on c.first.ensures.free (ap (λ (q : _). q.items) c.first.ensures.queues) c.first.ensures.long) c.first.ensures.looked c.first.ensures.sorted c.first.ensures.first c.in-Some.is) c.shape-shape.ensures (advanced-some _ _ _ _ c.in-Some-2.happened c.in-Some-2.is c.in_ok-happened.ensures.advanced) c.staying-first.ensures in
    a.senders place m past (subst (λ (ms : List Mail). slice_get ms place ≡ Some m) c.pool.ensures here)

pub put_sent-requires-clause-receiver : goal.put_sent-requires-clause-receiver
put_sent-requires-clause-receiver c place m here =
    let a = after-turn c.args.ticks.now c.args.network.now c.args.machine.now.state.setting c.loop-place.machine.state c.advance.new.machine.state c.loop-place.machine.made c.advance.new.machine.made c.loop-place.log c.first.new.self.free c.first.new.self.queues.items c.first.new.self.choices c.in-Some.place c.in-Some.choice c.in-Some-2.happened c.shape-shape.result c.staying-first.result (at-turn c.args.ticks.now c.args.network.now c.args.machine.now.state.setting c.loop-place.machine.state c.loop-place.machine.made c.loop-place.log c.first.new.self.free c.first.new.self.queues.items c.first.new.self.choices c.first.result c.in-Some.place c.in-Some.choice (on-time-same c.args.ticks.now c.args.network.now c.args.machine.now.state.setting c.loop-place.machine.state c.loop-place.machine.made c.loop-place.log c.loop-place.actors.free c.first.new.self.free c.loop-place.actors.queues.items c.first.new.self.queues.items c.loop-place.actors.choices c.first.new.self.choices c.loop-place.invariant.on c.first.ensures.free (ap (λ (q : _). q.items) c.first.ensures.queues) c.first.ensures.long) c.first.ensures.looked c.first.ensures.sorted c.first.ensures.first c.in-Some.is) c.shape-shape.ensures (advanced-some _ _ _ _ c.in-Some-2.happened c.in-Some-2.is c.in_ok-happened.ensures.advanced) c.staying-first.ensures in
    a.receivers place m (subst (λ (ms : List Mail). slice_get ms place ≡ Some m) c.pool.ensures here)

pub put_sent-requires-clause-first : goal.put_sent-requires-clause-first
put_sent-requires-clause-first c =
    let a = after-turn c.args.ticks.now c.args.network.now c.args.machine.now.state.setting c.loop-place.machine.state c.advance.new.machine.state c.loop-place.machine.made c.advance.new.machine.made c.loop-place.log c.first.new.self.free c.first.new.self.queues.items c.first.new.self.choices c.in-Some.place c.in-Some.choice c.in-Some-2.happened c.shape-shape.result c.staying-first.result (at-turn c.args.ticks.now c.args.network.now c.args.machine.now.state.setting c.loop-place.machine.state c.loop-place.machine.made c.loop-place.log c.first.new.self.free c.first.new.self.queues.items c.first.new.self.choices c.first.result c.in-Some.place c.in-Some.choice (on-time-same c.args.ticks.now c.args.network.now c.args.machine.now.state.setting c.loop-place.machine.state c.loop-place.machine.made c.loop-place.log c.loop-place.actors.free c.first.new.self.free c.loop-place.actors.queues.items c.first.new.self.queues.items c.loop-place.actors.choices c.first.new.self.choices c.loop-place.invariant.on c.first.ensures.free (ap (λ (q : _). q.items) c.first.ensures.queues) c.first.ensures.long) c.first.ensures.looked c.first.ensures.sorted c.first.ensures.first c.in-Some.is) c.shape-shape.ensures (advanced-some _ _ _ _ c.in-Some-2.happened c.in-Some-2.is c.in_ok-happened.ensures.advanced) c.staying-first.ensures in
    subst (λ (ms : List Mail). c.staying-first.result ≤ length ms) (sym c.pool.ensures) a.first_is

pub put_sent-requires-clause-sent : goal.put_sent-requires-clause-sent
put_sent-requires-clause-sent c =
    let t = at-turn c.args.ticks.now c.args.network.now c.args.machine.now.state.setting c.loop-place.machine.state c.loop-place.machine.made c.loop-place.log c.first.new.self.free c.first.new.self.queues.items c.first.new.self.choices c.first.result c.in-Some.place c.in-Some.choice (on-time-same c.args.ticks.now c.args.network.now c.args.machine.now.state.setting c.loop-place.machine.state c.loop-place.machine.made c.loop-place.log c.loop-place.actors.free c.first.new.self.free c.loop-place.actors.queues.items c.first.new.self.queues.items c.loop-place.actors.choices c.first.new.self.choices c.loop-place.invariant.on c.first.ensures.free (ap (λ (q : _). q.items) c.first.ensures.queues) c.first.ensures.long) c.first.ensures.looked c.first.ensures.sorted c.first.ensures.first c.in-Some.is in
    omega (arith, t.late, c.of.ensures.most)

pub loop-place-smaller : goal.loop-place-smaller
loop-place-smaller c =
    let t = at-turn c.args.ticks.now c.args.network.now c.args.machine.now.state.setting c.loop-place.machine.state c.loop-place.machine.made c.loop-place.log c.first.new.self.free c.first.new.self.queues.items c.first.new.self.choices c.first.result c.in-Some.place c.in-Some.choice (on-time-same c.args.ticks.now c.args.network.now c.args.machine.now.state.setting c.loop-place.machine.state c.loop-place.machine.made c.loop-place.log c.loop-place.actors.free c.first.new.self.free c.loop-place.actors.queues.items c.first.new.self.queues.items c.loop-place.actors.choices c.first.new.self.choices c.loop-place.invariant.on c.first.ensures.free (ap (λ (q : _). q.items) c.first.ensures.queues) c.first.ensures.long) c.first.ensures.looked c.first.ensures.sorted c.first.ensures.first c.in-Some.is in
    let by = advanced-some _ _ _ _ c.in-Some-2.happened c.in-Some-2.is c.in_ok-happened.ensures.advanced in
    omega (arith, t.few, by.made)

pub loop-place-preserved : goal.loop-place-preserved
loop-place-preserved c =
    let t = at-turn c.args.ticks.now c.args.network.now c.args.machine.now.state.setting c.loop-place.machine.state c.loop-place.machine.made c.loop-place.log c.first.new.self.free c.first.new.self.queues.items c.first.new.self.choices c.first.result c.in-Some.place c.in-Some.choice (on-time-same c.args.ticks.now c.args.network.now c.args.machine.now.state.setting c.loop-place.machine.state c.loop-place.machine.made c.loop-place.log c.loop-place.actors.free c.first.new.self.free c.loop-place.actors.queues.items c.first.new.self.queues.items c.loop-place.actors.choices c.first.new.self.choices c.loop-place.invariant.on c.first.ensures.free (ap (λ (q : _). q.items) c.first.ensures.queues) c.first.ensures.long) c.first.ensures.looked c.first.ensures.sorted c.first.ensures.first c.in-Some.is in
    let by = advanced-some _ _ _ _ c.in-Some-2.happened c.in-Some-2.is c.in_ok-happened.ensures.advanced in
    record {
      on =
          on-time-more c.args.ticks.now c.args.network.now c.args.machine.now.state.setting c.loop-place.machine.state c.advance.new.machine.state c.loop-place.machine.made c.advance.new.machine.made c.loop-place.log
          c.note.new.self c.first.new.self.free c.set.new.self c.first.new.self.queues.items c.take_handled.new.queues.items c.put_sent.new.queues.items c.first.new.self.choices (c.in-Some.place, c.in-Some.choice)
          c.in-Some-2.happened c.staying-first.result c.shape-shape.result (c.in-Some.choice.start + c.of.result) c.requires.latency (λ kind. (c.requires.ticks.events kind).1) t.on t.prepared by c.in_ok-note.ensures c.staying-first.ensures c.shape-shape.ensures
          (ap (λ (n : ℕ). c.in-Some.choice.start + n) c.of.ensures.value) c.set.ensures (c.in_ok-put_sent.ensures.rows ∙ c.take_handled.ensures.rows) c.take_handled.ensures.weights
          (λ other w. c.in_ok-put_sent.ensures.weights other w ∙ ap (λ (ms : List Mail). sum_by w (queue_at c.take_handled.new.queues.items other) + weight_to c.args.network.now c.shape-shape.result (c.in-Some.choice.start + c.of.result) other w (drop c.staying-first.result ms)) c.pool.ensures);
      shape = c.shape-shape.ensures;
    }

pub returns : goal.returns
returns c =
    let on = on-time-same c.args.ticks.now c.args.network.now c.args.machine.now.state.setting c.loop-place.machine.state c.loop-place.machine.made c.loop-place.log c.loop-place.actors.free c.first.new.self.free c.loop-place.actors.queues.items c.first.new.self.queues.items c.loop-place.actors.choices c.first.new.self.choices c.loop-place.invariant.on c.first.ensures.free (ap (λ (q : _). q.items) c.first.ensures.queues) c.first.ensures.long in
    record {
      run =
          at-end c.args.ticks.now c.args.network.now c.args.machine.now.state.setting c.args.machine.now.state c.loop-place.machine.state c.loop-place.machine.made c.loop-place.log c.first.new.self.free c.first.new.self.queues.items c.first.new.self.choices c.first.new.self.choices c.requires.initial on
          (prepared-of c.args.ticks.now c.args.network.now c.args.machine.now.state.setting c.loop-place.machine.state c.loop-place.machine.made c.loop-place.log c.first.new.self.free c.first.new.self.queues.items c.first.new.self.choices c.first.new.self.choices None on c.first.ensures.looked c.first.ensures.sorted
          (subst (IsFirstChoice c.first.new.self.choices (length c.first.new.self.choices)) c.in_default.is c.first.ensures.first));
    }
