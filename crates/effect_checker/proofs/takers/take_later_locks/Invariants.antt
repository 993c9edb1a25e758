use Rattle.effect_checker.specs.Takers.{KeepTakers}
use Rattle.effect_checker.proofs.TakerLemmas.{AreOthers}
use Rattle.effect_checker.proofs.takers.take_later_locks.Given as goal

abbrev pub invariant-loop-other : goal.invariant-loop-other
invariant-loop-other l = record {
  kept : KeepTakers l.initial.takers l.takers;
  taken : AreOthers l.tasks l.fn.lock l.other l.takers;
}
