use Rattle.std.proofs.Common.{◌+◌, ◌-◌, arith}
use Rattle.run_chart.specs.Picture.{lane_at}
use Rattle.run_chart.proofs.Lanes.{lanes-done, lanes-step}
use Rattle.run_chart.proofs.head.push_shown_lanes.Goals as goal

pub loop-index-preserved : goal.loop-index-preserved
loop-index-preserved c =
    rw c.in_ok-push_lane_at.ensures
    (lanes-step (lane_at c.args.chart.now) c.loop-index.out.items c.loop-index.index (32 - c.loop-index.index) (32 - (c.loop-index.index + 1)) _ (omega (arith, c.loop-index-test.true)) c.loop-index.invariant)

pub returns : goal.returns
returns c =
    lanes-done (lane_at c.args.chart.now) c.loop-index.out.items c.loop-index.index (32 - c.loop-index.index) _ (omega (arith, c.loop-index-test.false)) c.loop-index.invariant
