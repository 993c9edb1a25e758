use Rattle.std.proofs.Common.{take}
use Rattle.effect_checker.specs.Least.{contends}
use Rattle.effect_checker.proofs.CoreLemmas.{NonePasses}
use Rattle.effect_checker.proofs.searching.first_user.Given as goal

abbrev pub invariant-loop-user : goal.invariant-loop-user
invariant-loop-user l = NonePasses (contends l.writer) (take l.user-index l.tasks)
