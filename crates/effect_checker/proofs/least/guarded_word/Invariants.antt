use Rattle.std.proofs.Common.{◌&&◌, take}
use Rattle.region_table.specs.Words.{has}
use Rattle.effect_checker.specs.Checked.{lock_guards}
use Rattle.effect_checker.specs.Least.{IsLeastFound}
use Rattle.effect_checker.proofs.least.guarded_word.Given as goal

abbrev pub invariant-loop-task : goal.invariant-loop-task
invariant-loop-task l = IsLeastFound (λ w. lock_guards (take l.task-index l.tasks) l.fn.lock w && has l.set w) l.least
