use Rattle.region_table.proofs.PlanLemmas.{plans_more}
use Rattle.region_table.proofs.plan.plans.Goals as goal

pub loop-phase-preserved : goal.loop-phase-preserved
loop-phase-preserved c =
    rw c.in_ok-push.ensures.items
    (plans_more c.args.program.now c.as_slice-phase-items.result.now c.loop-phase.phase-index c.phase-item.result c.loop-phase.plans.items c.in_ok-plan_of.field-0
    c.loop-phase-test.true c.phase-item.is c.loop-phase.invariant c.in_ok-plan_of.ensures)
