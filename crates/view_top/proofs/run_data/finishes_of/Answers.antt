use Rattle.std.proofs.Common.{◌≤◌, List, length, sym, subst}
use Rattle.message_net.specs.declared.event.Event.{Event}
use Rattle.machine_rules.specs.Runs.{IsRun}
use Rattle.view_top.proofs.Machines.{stays-after, finishes-made}
use Rattle.view_top.proofs.run_data.finishes_of.Goals as goal

pub finish_events-requires-clause-run : goal.finish_events-requires-clause-run
finish_events-requires-clause-run c = subst (λ (es : List Event). IsRun c.begin_again.new.machine.state es) (sym c.as_slice.ensures) c.in_ok-begin_again.ensures.run

pub finish_events-requires-clause-few : goal.finish_events-requires-clause-few
finish_events-requires-clause-few c = subst (λ (es : List Event). length es ≤ 25169664) (sym c.as_slice.ensures) c.requires.kept.few

pub returns-clause-finishes : goal.returns-clause-finishes
returns-clause-finishes c =
    finishes-made c.args.kept.now c.begin_again.new.machine c.as_slice.result.now c.args.ticks.now c.finish_events.result c.in_ok-begin_again.ensures.machine c.in_ok-begin_again.ensures.initial c.as_slice.ensures
    c.finish_events.ensures.finishes

pub returns-clause-machine : goal.returns-clause-machine
returns-clause-machine c =
    stays-after c.args.kept.now c.begin_again.new.machine c.finish_events.new.machine c.as_slice.result.now c.finish_events.result c.finish_events.ensures.leads c.in_ok-begin_again.ensures.machine
