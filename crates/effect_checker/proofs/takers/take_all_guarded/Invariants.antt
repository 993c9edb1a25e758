use Rattle.std.proofs.Common.{take}
use Rattle.effect_checker.specs.Checked.{lock_guards}
use Rattle.effect_checker.specs.Takers.{AreTaken, KeepTakers}
use Rattle.effect_checker.proofs.takers.take_all_guarded.Given as goal

abbrev pub invariant-loop-task : goal.invariant-loop-task
invariant-loop-task l = record {
  kept : KeepTakers l.initial.takers l.takers;
  taken : AreTaken (lock_guards (take l.task-index l.tasks) l.fn.lock) l.fn.taker l.takers;
}
