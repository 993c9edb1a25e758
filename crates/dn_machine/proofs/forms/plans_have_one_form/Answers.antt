use Rattle.std.proofs.Common.{subst}
use Rattle.std.proofs.lemmas.List.Elements.{All-more}
use Rattle.region_table.proofs.NumberLemmas.{all-taken}
use Rattle.dn_machine.specs.Plans.{IsInOneForm}
use Rattle.dn_machine.proofs.forms.plans_have_one_form.Goals as goal

pub loop-plan-preserved : goal.loop-plan-preserved
loop-plan-preserved c =
    All-more IsInOneForm c.args.plans.now c.loop-plan.plan-index c.plan-item.result c.loop-plan-test.true c.loop-plan.invariant
    (subst IsInOneForm c.plan-item.is c.plan_has_one_form.ensures)

pub returns : goal.returns
returns c = all-taken IsInOneForm c.loop-plan.plan-index c.args.plans.now c.loop-plan-test.false c.loop-plan.invariant
