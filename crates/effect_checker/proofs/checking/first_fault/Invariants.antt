use Rattle.effect_checker.proofs.FaultLemmas.{AreCheckedBefore}
use Rattle.effect_checker.proofs.checking.first_fault.Given as goal

abbrev pub invariant-loop-number : goal.invariant-loop-number
invariant-loop-number l = AreCheckedBefore l.program.phases l.number
