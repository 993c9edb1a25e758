use Rattle.std.proofs.Common.{◌≤◌, List, length, sym, subst}
use Rattle.message_net.specs.declared.event.Event.{Event}
use Rattle.view_top.proofs.Machines.{chart-made, stays-charted}
use Rattle.view_top.proofs.charts.chart_of.Goals as goal

pub chart-requires-clause-few : goal.chart-requires-clause-few
chart-requires-clause-few c = subst (λ (es : List Event). length es ≤ 25169664) (sym c.as_slice.ensures) c.requires.kept.few

pub returns-clause-chart : goal.returns-clause-chart
returns-clause-chart c =
    chart-made c.args.kept.now c.begin_again.new.machine c.as_slice.result.now c.args.range c.args.chain.now c.args.columns c.chart.result c.in_ok-begin_again.ensures.machine
    c.in_ok-begin_again.ensures.initial c.as_slice.ensures c.chart.ensures.chart

pub returns-clause-machine : goal.returns-clause-machine
returns-clause-machine c = stays-charted c.args.kept.now c.begin_again.new.machine c.chart.result c.chart.ensures.setting c.in_ok-begin_again.ensures.machine
