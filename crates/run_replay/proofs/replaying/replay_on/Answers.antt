use Rattle.std.proofs.Common.{refl, ◌∙◌, arith}
use Rattle.run_replay.proofs.UnderWay.{advanced-some, advanced-none, starts, one-more, few-noted, stopped, at-end, way-setting, setting-kept}
use Rattle.run_replay.proofs.replaying.replay_on.Goals as goal

pub loop-event-init : goal.loop-event-init
loop-event-init c =
    record {
      way =
          starts c.args.machine.now.state.setting c.args.events.now c.args.machine.now.state c.args.machine.now.made c.in_ok-log.log c.requires.initial c.requires.made c.in_ok-log.ensures;
      number = refl;
    }

pub returns-clause-is_true : goal.returns-clause-is_true
returns-clause-is_true c =
    at-end c.args.machine.now.state.setting c.args.events.now c.loop-event.event-index c.loop-event.machine.state c.loop-event.machine.made c.loop-event.log c.finish.result c.loop-event-test.false
    c.loop-event.invariant.way c.finish.ensures.kept c.finish.ensures.tells

pub returns-clause-setting : goal.returns-clause-setting
returns-clause-setting c = setting-kept c.args.machine.now.state.setting _ c.loop-event.machine.state c.loop-event.machine.made c.loop-event.log c.finish.result c.loop-event.invariant.way

pub returns-in_default-clause-is_true : goal.returns-in_default-clause-is_true
returns-in_default-clause-is_true c =
    rw c.loop-event.invariant.number
    (stopped c.args.machine.now.state.setting c.args.events.now c.loop-event.event-index _ c.loop-event.machine.state c.loop-event.machine.made c.loop-event.log c.loop-event-test.true c.loop-event.invariant.way
    (advanced-none _ _ _ _ c.in_default.not-Some c.in_ok-came.ensures.advanced))

pub returns-in_default-clause-setting : goal.returns-in_default-clause-setting
returns-in_default-clause-setting c =
    c.in_ok-came.ensures.setting ∙ way-setting c.args.machine.now.state.setting _ c.loop-event.machine.state c.loop-event.machine.made c.loop-event.log c.loop-event.invariant.way

pub note-requires : goal.note-requires
note-requires c =
    few-noted c.args.machine.now.state.setting c.args.events.now c.loop-event.event-index c.loop-event.machine.state c.loop-event.machine.made c.loop-event.log c.in-Some.happened.observed.kind c.requires.few
    (omega (arith, c.loop-event-test.true)) c.loop-event.invariant.way

pub loop-event-preserved : goal.loop-event-preserved
loop-event-preserved c =
    let by = advanced-some _ _ _ _ c.in-Some.happened c.in-Some.is c.in_ok-came.ensures.advanced in
    record {
      way =
          one-more c.args.machine.now.state.setting c.args.events.now c.loop-event.event-index _ c.loop-event.machine.state c.advance.new.machine.state c.loop-event.machine.made c.advance.new.machine.made
          c.loop-event.log c.note.new.self c.in-Some.happened c.loop-event-test.true c.loop-event.invariant.way by.may by.event_is by.came by.made by.kept c.in_ok-note.ensures;
      number = omega (arith, c.loop-event.invariant.number);
    }
