use Rattle.std.proofs.Common.{take}
use Rattle.std.specs.List.{list_any}
use Rattle.region_table.specs.declared.declared.TaskDecl.{TaskDecl}
use Rattle.region_table.specs.Plan.{uses_plainly}
use Rattle.effect_checker.specs.Takers.{AreTaken, KeepTakers}
use Rattle.effect_checker.proofs.takers.take_all_plain.Given as goal

abbrev pub invariant-loop-task : goal.invariant-loop-task
invariant-loop-task l = record {
  kept : KeepTakers l.initial.takers l.takers;
  taken : AreTaken (λ w. list_any (λ (t : TaskDecl). uses_plainly t w) (take l.task-index l.tasks)) 1 l.takers;
}
