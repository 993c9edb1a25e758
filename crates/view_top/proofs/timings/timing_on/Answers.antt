use Rattle.std.proofs.Common.{◌≤◌, List, length, sym, subst}
use Rattle.message_net.specs.declared.event.Event.{Event}
use Rattle.machine_rules.specs.Runs.{IsRun}
use Rattle.view_top.proofs.Machines.{stays-after, timing-made}
use Rattle.view_top.proofs.timings.timing_on.Goals as goal

pub time_events-requires-clause-run : goal.time_events-requires-clause-run
time_events-requires-clause-run c = subst (λ (es : List Event). IsRun c.begin_again.new.machine.state es) (sym c.as_slice.ensures) c.in_ok-begin_again.ensures.run

pub time_events-requires-clause-few : goal.time_events-requires-clause-few
time_events-requires-clause-few c = subst (λ (es : List Event). length es ≤ 25169664) (sym c.as_slice.ensures) c.requires.kept.few

pub returns-clause-timing : goal.returns-clause-timing
returns-clause-timing c =
    timing-made c.args.kept.now c.begin_again.new.machine c.as_slice.result.now c.args.ticks.now c.time_events.result c.in_ok-begin_again.ensures.machine c.in_ok-begin_again.ensures.initial c.as_slice.ensures
    c.time_events.ensures.timing

pub returns-clause-machine : goal.returns-clause-machine
returns-clause-machine c =
    stays-after c.args.kept.now c.begin_again.new.machine c.time_events.new.machine c.as_slice.result.now c.time_events.result c.time_events.ensures.leads c.in_ok-begin_again.ensures.machine
