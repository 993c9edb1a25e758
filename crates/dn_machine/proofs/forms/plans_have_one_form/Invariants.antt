use Rattle.std.proofs.Common.{take}
use Rattle.std.specs.List.{All}
use Rattle.dn_machine.specs.Plans.{IsInOneForm}
use Rattle.dn_machine.proofs.forms.plans_have_one_form.Given as goal

abbrev pub invariant-loop-plan : goal.invariant-loop-plan
invariant-loop-plan l = All IsInOneForm (take l.plan-index l.plans)
