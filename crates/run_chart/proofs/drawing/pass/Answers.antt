use Rattle.std.proofs.Common.{rules, arith, ◌∙◌}
use Rattle.std.proofs.lemmas.Grind.{common_steps}
use Rattle.run_chart.proofs.Begun.{tried-setting}
use Rattle.run_chart.proofs.drawing.pass.Goals as goal

pub loop-event-preserved : goal.loop-event-preserved
loop-event-preserved c =
    record {
      made = search rules;
      setting = tried-setting _ _ _ _ c.in_ok-came.ensures.tried ∙ c.loop-event.invariant.setting;
      so_far = grind (arith, common_steps);
    }
