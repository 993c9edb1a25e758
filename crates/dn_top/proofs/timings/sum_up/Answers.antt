use Rattle.std.proofs.Common.{◌≤◌, List, length, sym, ap, subst, ◌∙◌}
use Rattle.message_net.specs.declared.event.Event.{Event}
use Rattle.machine_rules.specs.Runs.{IsRun}
use Rattle.run_timing.specs.Ticks.{AreWithinLimits}
use Rattle.dn_top.specs.Runs.{output_of_run}
use Rattle.dn_top.proofs.TimedRun.{run-of-opened, times-opened}
use Rattle.dn_top.proofs.timings.sum_up.Goals as goal

pub time_events-requires-clause-run : goal.time_events-requires-clause-run
time_events-requires-clause-run c =
    let m = c.args.machine.now in
    subst (λ (es : List Event). IsRun m.state es) (sym c.as_slice-events.ensures)
    (run-of-opened m.state.setting.program c.args.options.now m c.args.run c.requires.initial c.a_machine_is_kept.ensures c.requires.run)

pub time_events-requires-clause-few : goal.time_events-requires-clause-few
time_events-requires-clause-few c =
    subst (λ (es : List Event). length es ≤ 25169664) (sym c.as_slice-events.ensures) c.requires.run.machine.few.most

pub returns : goal.returns
returns c =
    let m = c.args.machine.now in
    record {
      limits = subst AreWithinLimits c.ticks_of.ensures.value c.ticks_of.ensures.limits;
      timing = c.in_ok-timing.timing;
      times =
          times-opened m.state.setting.program c.args.options.now m c.args.run c.as_slice-events.result.now c.ticks_of.result c.in_ok-timing.timing c.requires.initial c.a_machine_is_kept.ensures
          c.as_slice-events.ensures c.ticks_of.ensures.value c.in_ok-timing.ensures.timing;
      answer = c.handed_back.ensures ∙ ap (λ (text : List _). output_of_run text c.args.run) c.in_ok-text.ensures;
    }
