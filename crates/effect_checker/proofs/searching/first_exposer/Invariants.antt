use Rattle.std.proofs.Common.{take}
use Rattle.effect_checker.specs.Least.{exposes}
use Rattle.effect_checker.proofs.CoreLemmas.{NonePasses}
use Rattle.effect_checker.proofs.searching.first_exposer.Given as goal

abbrev pub invariant-loop-user : goal.invariant-loop-user
invariant-loop-user l = NonePasses (exposes l.tasks l.fn.lock) (take l.user-index l.tasks)
