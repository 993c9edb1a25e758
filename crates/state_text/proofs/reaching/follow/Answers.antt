use Rattle.std.proofs.Common.{◌≡◌, ◌+◌, ◌<◌, length, Ok, ap, arith}
use Rattle.state_text.proofs.Followed.{came-some, came-none, one-more-run, one-more-leads, stopped-at, all-came}
use Rattle.state_text.proofs.reaching.follow.Goals as goal

pub loop-event-preserved : goal.loop-event-preserved
loop-event-preserved c =
    let inside : c.loop-event.event-index < length c.args.events.now = omega (arith, c.loop-event-test.true) in
    let stepped = came-some _ _ _ _ _ c.in-Some.is c.in_ok-stepped.ensures.tried in
    let more : c.try_step.new.self.made ≡ c.loop-event.machine.made + 1 = c.in_ok-stepped.ensures.came c.in-Some.field-0 (ap Ok c.in-Some.is) in
    record {
      run = one-more-run c.args.machine.now.state c.loop-event.machine.state c.args.events.now c.loop-event.event-index _ inside c.loop-event.invariant.run c.loop-event.invariant.leads stepped.may;
      leads = one-more-leads c.args.machine.now.state c.loop-event.machine.state c.try_step.new.self.state c.args.events.now c.loop-event.event-index _ inside c.loop-event.invariant.leads stepped.state;
      came = omega (arith, c.loop-event.invariant.came);
      made = omega (arith, more, c.loop-event.invariant.made);
    }

pub returns-in-None : goal.returns-in-None
returns-in-None c =
    let inside : c.loop-event.event-index < length c.args.events.now = omega (arith, c.loop-event-test.true) in
    let not = came-none _ _ _ _ c.in-None.is c.in_ok-stepped.ensures.tried in
    stopped-at c.args.machine.now.state c.loop-event.machine.state c.try_step.new.self.state c.args.events.now c.loop-event.event-index c.loop-event.came _ c.loop-event.invariant.came inside
    c.loop-event.invariant.run c.loop-event.invariant.leads not.1 not.0

pub returns : goal.returns
returns c =
    all-came c.args.machine.now.state c.loop-event.machine.state c.args.events.now c.loop-event.event-index c.loop-event.came c.loop-event.invariant.came (omega arith) (omega arith)
    c.loop-event.invariant.run c.loop-event.invariant.leads
