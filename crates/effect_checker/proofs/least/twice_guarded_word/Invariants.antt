use Rattle.std.proofs.Common.{◌&&◌, take}
use Rattle.effect_checker.specs.Checked.{lock_guards}
use Rattle.effect_checker.specs.Least.{IsLeastFound}
use Rattle.effect_checker.proofs.least.twice_guarded_word.Given as goal

abbrev pub invariant-loop-task : goal.invariant-loop-task
invariant-loop-task l = IsLeastFound (λ w. lock_guards (take l.task-index l.tasks) l.fn.first w && lock_guards l.tasks l.fn.second w) l.least
