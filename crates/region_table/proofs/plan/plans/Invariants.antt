use Rattle.std.proofs.Common.{take}
use Rattle.std.specs.List.{AllZip}
use Rattle.region_table.specs.Plan.{IsPlan}
use Rattle.region_table.proofs.plan.plans.Given as goal

abbrev pub invariant-loop-phase : goal.invariant-loop-phase
invariant-loop-phase l = AllZip (IsPlan l.program) (take l.phase-index l.phase-items) l.plans.items
