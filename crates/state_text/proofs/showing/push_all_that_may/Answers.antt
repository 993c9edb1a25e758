use Rattle.state_text.specs.Shown.{may_come_line}
use Rattle.state_text.proofs.Each.{each-read}
use Rattle.state_text.proofs.showing.push_all_that_may.Goals as goal

pub loop-event-preserved : goal.loop-event-preserved
loop-event-preserved c =
    rw c.in_ok-push_may_come.ensures
    (each-read (may_come_line c.args.program.now) c.loop-event.out.items c.args.events.now c.loop-event.event-index _ _ c.loop-event-test.true c.loop-event.invariant)
